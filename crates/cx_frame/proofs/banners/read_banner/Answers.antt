use Rattle.std.proofs.Common.{◌∙◌, sym, arith}
use Rattle.std.specs.Prelude.{IfSome}
use Rattle.cx_frame.specs.Banners.{IsBanner}
use Rattle.cx_frame.proofs.Answering.{ok_from}
use Rattle.cx_frame.proofs.BannerLaws.{banner_found, banner_again}
use Rattle.cx_frame.proofs.banners.read_banner.Goals as goal

pub returns-clause-found : goal.returns-clause-found
returns-clause-found c =
    ok_from c.banner_at.result (λ read. IfSome read (λ x. IsBanner c.args.bytes.now x.0 x.1))
    (λ read is. banner_found c.args.bytes.now read (λ i. omega (arith, c.type_inv.bytes i)) (sym c.banner_at.ensures ∙ is))

pub returns-clause-only : goal.returns-clause-only
returns-clause-only c = λ b n hs hr is. c.banner_at.ensures ∙ banner_again c.args.bytes.now b n hs hr is
