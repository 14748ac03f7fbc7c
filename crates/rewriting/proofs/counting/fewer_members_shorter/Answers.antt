use Rattle.rewriting.proofs.Members.{fewer_members}
use Rattle.rewriting.proofs.counting.fewer_members_shorter.Goals as goal

pub returns : goal.returns
returns c = fewer_members
