use Rattle.rewriting.proofs.Listing.{no_site_normal}
use Rattle.rewriting.proofs.sites.no_site_exactly_if_normal_form.Goals as goal

pub returns : goal.returns
returns c = no_site_normal
