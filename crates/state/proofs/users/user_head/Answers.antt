use Rattle.state.specs.UserLaws.{head_form}
use Rattle.state.proofs.users.user_head.Goals as goal

pub returns : goal.returns
returns c = head_form _ _ _ _ _
