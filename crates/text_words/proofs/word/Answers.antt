-- By the laws of splitting: the first word from where word k begins is word k.
use Rattle.std.proofs.Common.{ap, sym, ◌∙◌, length}
use Rattle.text_rules.specs.Words.{first_word}
use Rattle.text_words.proofs.WordLaws.{first_part, rest}
use Rattle.text_words.proofs.word.Goals as goal

pub slice_bounds-result-end : goal.slice_bounds-result-end
slice_bounds-result-end c = c.first_length-n.ensures ∙ ap length (sym (first_part _ _ c.first_length-n.ensures))

pub returns : goal.returns
returns c =
    first_part _ _ c.first_length-n.ensures ∙ (ap first_word (rest c.args.line.now c.word_start-start.result) ∙ c.word_start-start.ensures.line_value)
