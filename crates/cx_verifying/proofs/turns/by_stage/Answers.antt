-- No book is asked by these turns.
use Rattle.std.proofs.Common.{refl}
use Rattle.cx_rules_session.specs.cx_desk.specs.Handlers.{Handlers}
use Rattle.cx_verifying.proofs.turns.by_stage.Goals as goal

pub returns-in_ok-banner_turn-in-AwaitsBanner : goal.returns-in_ok-banner_turn-in-AwaitsBanner
returns-in_ok-banner_turn-in-AwaitsBanner c = λ (handlers : Handlers). rw c.in-AwaitsBanner.is (refl, c.in_ok-banner_turn-in-AwaitsBanner.ensures handlers)

pub returns-in_ok-hello_turn-in-AwaitsHello : goal.returns-in_ok-hello_turn-in-AwaitsHello
returns-in_ok-hello_turn-in-AwaitsHello c = λ (handlers : Handlers). rw c.in-AwaitsHello.is (refl, c.in_ok-hello_turn-in-AwaitsHello.ensures handlers)

pub returns-in_ok-request_turn-in-AwaitsRequest : goal.returns-in_ok-request_turn-in-AwaitsRequest
returns-in_ok-request_turn-in-AwaitsRequest c = λ (handlers : Handlers). rw c.in-AwaitsRequest.is (refl, c.in_ok-request_turn-in-AwaitsRequest.ensures handlers)

pub returns-in_ok-proof_turn-in-AwaitsProof : goal.returns-in_ok-proof_turn-in-AwaitsProof
returns-in_ok-proof_turn-in-AwaitsProof c = λ (handlers : Handlers). rw c.in-AwaitsProof.is (refl, c.in_ok-proof_turn-in-AwaitsProof.ensures handlers)

pub returns-in_ok-signature_turn-in-AwaitsSignature : goal.returns-in_ok-signature_turn-in-AwaitsSignature
returns-in_ok-signature_turn-in-AwaitsSignature c = λ (handlers : Handlers). rw c.in-AwaitsSignature.is (refl, c.in_ok-signature_turn-in-AwaitsSignature.ensures handlers)
