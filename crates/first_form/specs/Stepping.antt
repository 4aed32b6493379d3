-- What a test that goes over instructions says of the frame that it leaves.
use Rattle.std.specs.Prelude.{Bool, true, false}
use Rattle.first_form.specs.declared.frame.IntFrame.{IntFrame}

-- it passes where some frame comes next, and leaves that frame
abbrev pub Follows : Bool → (IntFrame → Type 0) → IntFrame → Type 0
Follows true comes_next g = comes_next g
Follows false comes_next g = (h : IntFrame) → comes_next h → ⊥
