-- The handlers of a linked method catch what those of the method catch.
use Rattle.std.proofs.Common.{◌≡◌, ℕ, List, [], ◌∷◌, map, Option, Some, None, refl, ap, sym, ◌∙◌}
use Rattle.std.specs.Prelude.{leb, ltb, ◌&&◌, Bool, option_map}
use Rattle.run_state.specs.Unwinding.{catching, catches, first_of}
use Rattle.linked_code.specs.declared.program.Handler.{Handler}
use Rattle.linked_code.specs.declared.program.LinkedClass.{LinkedClass}
use Rattle.linked_code.specs.declared.program.Method.{Method}
use Rattle.linked_code.specs.declared.program.Program.{Program}
use Rattle.linked_code.specs.World.{World}
use Rattle.linked_code.specs.Numbered.{class_at, method_at}
use Rattle.linked_code.specs.Links.{IsClass, Links, handler_of}
use Rattle.machine.specs.Caught.{caught_by, takes}

takes_is : {T : Type 0} (none : T) (w : World T) (c : List ℕ) (k : LinkedClass T) (caught : Option ℕ) → IsClass none w c k → catches w.looks c (option_map w.class caught) ≡ takes k.fits caught
takes_is none w c k None h = refl
takes_is none w c k (Some b) h = h.fits b

catching_is : {T : Type 0} (none : T) (w : World T) (c : List ℕ) (k : LinkedClass T) (at : ℕ) (hs : List Handler) → IsClass none w c k → catching w.looks c at (map (handler_of none w) hs) ≡ caught_by k.fits hs at
catching_is none w c k at [] h = refl
catching_is none w c k at (x ∷ hs) h =
    ap (λ (b : Bool). first_of ((leb x.start at && ltb at x.end) && b) x.target (catching w.looks c at (map (handler_of none w) hs))) (takes_is none w c k x.caught h)
    ∙ ap (λ (o : Option ℕ). first_of ((leb x.start at && ltb at x.end) && takes k.fits x.caught) x.target o) (catching_is none w c k at hs h)

-- what the method of a number does with an exception of the class of a number
pub catching_at : {T : Type 0} (none : T) (w : World T) (p : Program T) (n c at : ℕ) → Links none w p
    → catching w.looks (w.class c) at (w.method n).handlers ≡ caught_by (class_at p c).fits (method_at p n).handlers at
catching_at none w p n c at links =
    ap (catching w.looks (w.class c) at) (links.methods n).handlers
    ∙ catching_is none w (w.class c) (class_at p c) at (method_at p n).handlers (links.classes c)

pub begins_at : {T : Type 0} (none : T) (w : World T) (p : Program T) (n : ℕ) → Links none w p → (w.method n).begins ≡ option_map w.class (method_at p n).begins
begins_at none w p n links = (links.methods n).begins

pub begins_some : {T : Type 0} (none : T) (w : World T) (p : Program T) (n : ℕ) (m : Method) (k : ℕ) → Links none w p → m ≡ method_at p n → m.begins ≡ Some k → (w.method n).begins ≡ Some (w.class k)
begins_some none w p n m k links is e = begins_at none w p n links ∙ ap (option_map w.class) (ap (λ (x : Method). x.begins) (sym is) ∙ e)

pub begins_none : {T : Type 0} (none : T) (w : World T) (p : Program T) (n : ℕ) (m : Method) → Links none w p → m ≡ method_at p n → m.begins ≡ None → (w.method n).begins ≡ None
begins_none none w p n m links is e = begins_at none w p n links ∙ ap (option_map w.class) (ap (λ (x : Method). x.begins) (sym is) ∙ e)
