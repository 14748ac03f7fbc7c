use Rattle.rewriting.proofs.Listing.{sites_listed}
use Rattle.rewriting.proofs.sites.sites_are_listed.Goals as goal

pub returns : goal.returns
returns c = sites_listed
