-- What the program's sites stand for in the theory. Assumes nothing.
use Rattle.rewriting.specs.Sites as sites
use Rattle.sites.specs.declared.site.Site.{Site}

-- a site is its four parts
abbrev pub site_of : Site → sites.Site
site_of k = record { number = k.number; rule = k.rule; outer = k.outer; inner = k.inner }
