use Rattle.state.specs.UserLaws.{notice_form}
use Rattle.state.proofs.users.notice_fine.Goals as goal

pub returns : goal.returns
returns c = notice_form _ _ _
