-- Carried by what `all` answers of a slice.
use Rattle.std.proofs.Common.{◌∙◌, rules, tests}
use Rattle.std.proofs.lemmas.Iterator.{YieldsList-from_slice}
use Rattle.std.proofs.lemmas.Iterator.Search.{all_from_yields_List}
use Rattle.text_rules.specs.Digits.{is_digit}
use Rattle.text_hex.proofs.Pairs.{digits_all}
use Rattle.text_hex.proofs.reader.all_digits.Goals as goal

pub returns : goal.returns
returns c =
    let s = c.args.word.now in
    all_from_yields_List (is_digit 16) _ _ _ c.all.ensures.ran (YieldsList-from_slice s cc) (λ x b q k. search (rules, tests)) ∙ digits_all s
