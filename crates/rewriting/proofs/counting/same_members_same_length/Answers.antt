use Rattle.rewriting.proofs.Members.{same_members}
use Rattle.rewriting.proofs.counting.same_members_same_length.Goals as goal

pub returns : goal.returns
returns c = same_members
