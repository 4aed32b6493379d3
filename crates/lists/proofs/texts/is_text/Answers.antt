use Rattle.std.proofs.Common.{◌∙◌, sym, ap, List, ℕ, ◌++◌}
use Rattle.std.specs.Str.Iter.{chars_rest}
use Rattle.std.proofs.lemmas.Str.{IsUtf8-past_char}
use Rattle.lists.specs.Texts.{units_of}
use Rattle.lists.proofs.Units.{goes_on, units_past_char, units_of-nil, empty_is}
use Rattle.lists.proofs.texts.is_text.Goals as goal

pub returns-in_default : goal.returns-in_default
returns-in_default c =
    let inv = c.loop-c.invariant in
    let rest = chars_rest c.next.new.self in
    let past = units_past_char (chars_rest c.loop-c.c-iterator) rest c.in-Some.c inv.text c.in-Some.ensures.steps.0 in
    (λ no. absurd cc, λ e. absurd (c.in_default.ensures (units_of rest) (inv.whole.0 e ∙ past ∙ ap (λ (xs : List ℕ). xs ++ units_of rest) (sym c.encode_utf16.ensures.value))))

pub loop-c-preserved : goal.loop-c-preserved
loop-c-preserved c =
    let inv = c.loop-c.invariant in
    let bytes = chars_rest c.loop-c.c-iterator in
    let rest = chars_rest c.next.new.self in
    let both = goes_on bytes rest c.loop-c.rest.now c.in-Some-behind.after.now c.encode_utf16.result.now c.in-Some.c inv.text c.in-Some.ensures.steps.0 c.encode_utf16.ensures.value c.in-Some-behind.ensures in
    record {
      text = IsUtf8-past_char bytes rest c.in-Some.c inv.text c.in-Some.ensures.steps.0;
      whole = (λ e. both.0 (inv.whole.0 e), λ e. inv.whole.1 (both.1 e));
    }

pub returns : goal.returns
returns c =
    let inv = c.loop-c.invariant in
    let none = units_of-nil (chars_rest c.loop-c.c-iterator) c.in-None.ensures.steps.0.0 in
    let empty = empty_is c.loop-c.rest.now c.is_empty.result c.is_empty.ensures in
    (λ yes. inv.whole.1 (empty.0 yes ∙ sym none), λ e. empty.1 (inv.whole.0 e ∙ none))
