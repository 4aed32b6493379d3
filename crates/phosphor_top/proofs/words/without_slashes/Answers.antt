use Rattle.std.proofs.Common.{◌≡◌, ◌≢◌, ◌∙◌, List, ℕ, [], ◌∷◌, ◌++◌, Some, None, sym, ap, arith}
use Rattle.std.proofs.lemmas.Str.Pattern.{strip_suffix_char}
use Rattle.phosphor_top.specs.Commands.{without_slashes}
use Rattle.phosphor_top.proofs.Commanded.{slash_goes, keeps, front_is_text}
use Rattle.phosphor_top.proofs.words.without_slashes.Goals as goal

pub loop-front-preserved : goal.loop-front-preserved
loop-front-preserved c =
    let cut : c.loop-front.dir.now ≡ c.in-Some.front.now ++ 47 ∷ [] = strip_suffix_char 47 c.loop-front.dir.now (Some c.in-Some.front) c.in-Some.ensures.cases (omega arith) in
    record {
      text = front_is_text c.loop-front.dir.now c.in-Some.front.now cut c.loop-front.invariant.text;
      same = sym (slash_goes c.in-Some.front.now) ∙ ap without_slashes (sym cut) ∙ c.loop-front.invariant.same;
    }

pub returns : goal.returns
returns c =
    let none : (front : List ℕ) → c.loop-front.dir.now ≢ front ++ 47 ∷ [] = strip_suffix_char 47 c.loop-front.dir.now None c.in_default.ensures.cases (omega arith) in
    sym (keeps c.loop-front.dir.now none) ∙ c.loop-front.invariant.same
