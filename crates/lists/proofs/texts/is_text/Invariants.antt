use Rattle.std.proofs.Common.{◌≡◌, ◌↔◌}
use Rattle.std.specs.Str.{IsUtf8}
use Rattle.std.specs.Str.Iter.{chars_rest}
use Rattle.lists.specs.Texts.{units_of}
use Rattle.lists.proofs.texts.is_text.Given as goal

-- the units are those of the text exactly where what is left is the same
abbrev pub invariant-loop-c : goal.invariant-loop-c
invariant-loop-c l = record {
  text : IsUtf8 (chars_rest l.c-iterator);
  whole : (l.units ≡ units_of l.text) ↔ (l.rest ≡ units_of (chars_rest l.c-iterator));
}
