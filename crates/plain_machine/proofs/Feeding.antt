-- What a run is fed.
use Rattle.std.proofs.Common.{◌≡◌, ℕ, ◌∙◌, Bool, true, false, List, [], ◌∷◌, Option, Some, None, is_none, refl, ap, sym}
use Rattle.machine.specs.Shown.{shown, input_of}
use Rattle.program_links.specs.WorldOf.{world_of}
use Rattle.plain_machine.specs.declared.plain_run.PlainRun.{PlainRun}
use Rattle.plain_machine.specs.Standing.{set_of, main_of, Feeds, IsOpen, StandsWith}

-- a run with a byte fed, and whether that is the last
abbrev pub fed_with : PlainRun → Option ℕ → Bool → PlainRun
fed_with r byte closed = record r { machine = record r.machine { fed = byte }; closed = closed }

-- where nothing was fed, the machine shows the same with a byte that went before more
shows_same : (r : PlainRun) (byte : Option ℕ) (closed : Bool) (input : List ℕ) (k : ℕ) (rest more : List ℕ) (s : StandsWith r input k more)
    → r.machine.fed ≡ None → input_of byte rest ≡ more
    → shown (world_of (set_of r) (main_of r) s.shows.numbers) r.machine more ≡ shown (world_of (set_of r) (main_of r) s.shows.numbers) (record r.machine { fed = byte }) rest
shows_same r byte closed input k rest more s fed e =
    let same : input_of r.machine.fed more ≡ input_of byte rest = ap (λ b. input_of b more) fed ∙ sym e in
    ap (λ i. record (shown (world_of (set_of r) (main_of r) s.shows.numbers) r.machine more) { outside = record (shown (world_of (set_of r) (main_of r) s.shows.numbers) r.machine more).outside { input = i } }) same

pub feeds : (r : PlainRun) (byte : Option ℕ) → IsOpen r → Feeds byte r (fed_with r byte (is_none byte))
feeds r None opened = λ input k s. record {
  behind = refl;
  shows = record { numbers = s.shows.numbers; links = s.shows.links; state = s.shows.state ∙ shows_same r None true input k [] [] s opened.0 refl };
}
feeds r (Some b) opened = λ input k rest s. record {
  behind = tt;
  shows = record { numbers = s.shows.numbers; links = s.shows.links; state = s.shows.state ∙ shows_same r (Some b) false input k rest (b ∷ rest) s opened.0 refl };
}
