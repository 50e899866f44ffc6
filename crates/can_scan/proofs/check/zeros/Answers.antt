-- Carried by what `all` answers of a slice.
use Rattle.std.proofs.Common.{eqb, ◌∙◌, rules, tests}
use Rattle.std.proofs.lemmas.Iterator.{YieldsList-from_slice}
use Rattle.std.proofs.lemmas.Iterator.Search.{all_from_yields_List}
use Rattle.can_scan.proofs.Checks.{zeros_all}
use Rattle.can_scan.proofs.check.zeros.Goals as goal

pub returns : goal.returns
returns c =
    let s = c.args.bytes.now in
    all_from_yields_List (λ b. eqb b 0) _ _ _ c.all.ensures.ran (YieldsList-from_slice s cc) (λ x b q k. search (rules, tests)) ∙ zeros_all s
