use Rattle.std.proofs.Common.{◌≡◌, sym, subst, arith, length, [], ◌∷◌, ◌++◌}
use Rattle.std.proofs.lemmas.List.{length-append}
use Rattle.outside_io.specs.WriteLog.{AreTexts, log_of}
use Rattle.std.proofs.lemmas.Grind.{common_steps}
use Rattle.outside_io.proofs.Logs.{counts, taken-append, one_more, one_more_view, AreTexts-append}
use Rattle.outside_io.proofs.write_log.WriteLog.push.Goals as goal

pub unwrap-requires : goal.unwrap-requires
unwrap-requires c =
    let k = counts c.self.inside.sizes.items c.self.inside.text.items c.self.inside.files_room c.self.inside.bytes_room c.args.self.now c.self.view_is c.self.invariant.0 in
    grind (arith, common_steps, k.0, k.1, k.2, k.3)

pub unwrap-requires-2 : goal.unwrap-requires-2
unwrap-requires-2 c =
    let k = counts c.self.inside.sizes.items c.self.inside.text.items c.self.inside.files_room c.self.inside.bytes_room c.args.self.now c.self.view_is c.self.invariant.0 in
    grind (arith, common_steps, k.0, k.1, k.2, k.3)

pub unwrap-requires-3 : goal.unwrap-requires-3
unwrap-requires-3 c =
    let k = counts c.self.inside.sizes.items c.self.inside.text.items c.self.inside.files_room c.self.inside.bytes_room c.args.self.now c.self.view_is c.self.invariant.0 in
    grind (arith, common_steps, k.0, k.1, k.2, k.3)

pub invariant_of-self : goal.invariant_of-self
invariant_of-self c =
    let k = counts c.self.inside.sizes.items c.self.inside.text.items c.self.inside.files_room c.self.inside.bytes_room c.args.self.now c.self.view_is c.self.invariant.0 in
    let sizes_are : c.push.new.self.items ≡ c.self.inside.sizes.items ++ (length c.args.path.now, length c.args.bytes.now) ∷ [] = grind (arith, common_steps) in
    let text_is : c.extend_from_slice-2.new.self.items ≡ (c.self.inside.text.items ++ c.args.path.now) ++ c.args.bytes.now = grind (arith, common_steps) in
    let log_is : log_of c.push.new.self.items c.extend_from_slice-2.new.self.items ≡ log_of c.self.inside.sizes.items c.self.inside.text.items ++ (c.args.path.now, c.args.bytes.now) ∷ [] =
    rw (sizes_are, text_is) (one_more c.self.inside.sizes.items c.self.inside.text.items c.args.path.now c.args.bytes.now c.self.invariant.0) in (
      rw (sizes_are, text_is) (omega (arith, taken-append c.self.inside.sizes.items (length c.args.path.now, length c.args.bytes.now), length-append (c.self.inside.text.items ++ c.args.path.now) c.args.bytes.now, length-append c.self.inside.text.items c.args.path.now)),
      subst AreTexts (sym log_is) (AreTexts-append (log_of c.self.inside.sizes.items c.self.inside.text.items) (c.args.path.now, c.args.bytes.now) c.self.invariant.1 c.utf8.path),
      grind (arith, common_steps, k.1, k.3),
      grind (arith, common_steps),
      grind (arith, common_steps, k.0, k.2),
      grind (arith, common_steps),
    )

pub returns : goal.returns
returns c =
    let sizes_are : c.push.new.self.items ≡ c.self.inside.sizes.items ++ (length c.args.path.now, length c.args.bytes.now) ∷ [] = grind (arith, common_steps) in
    let text_is : c.extend_from_slice-2.new.self.items ≡ (c.self.inside.text.items ++ c.args.path.now) ++ c.args.bytes.now = grind (arith, common_steps) in
    one_more_view c.self.inside.sizes.items c.push.new.self.items c.self.inside.text.items c.extend_from_slice-2.new.self.items c.args.path.now c.args.bytes.now
    c.self.inside.files_room c.self.inside.bytes_room c.args.self.now c.self.view_is c.self.invariant.0 sizes_are text_is
