use Rattle.cx_frame.proofs.FrameLaws.{length-preamble_text, one_frame}
use Rattle.cx_frame.proofs.RestLaws.{length-rest_text}
use Rattle.cx_frame.proofs.laws.frame_laws.Goals as goal

pub returns-clause-front : goal.returns-clause-front
returns-clause-front c = length-preamble_text

pub returns-clause-rest : goal.returns-clause-rest
returns-clause-rest c = length-rest_text 65536

pub returns-clause-one : goal.returns-clause-one
returns-clause-one c = one_frame 65536
