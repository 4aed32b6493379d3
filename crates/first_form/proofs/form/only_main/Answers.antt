use Rattle.std.proofs.Common.{◌≡◌, length, ap, arith}
use Rattle.first_form.proofs.Single.{single_is, single_main}
use Rattle.first_form.proofs.form.only_main.Goals as goal

pub returns-in-len1 : goal.returns-in-len1
returns-in-len1 c =
    let methods = c.args.class.now.methods in
    let method = c.method-item.result in
    let one : length methods ≡ 1 = omega (arith, ap length c.as_slice.ensures) in
    single_main methods method c.main_code.result (single_is methods method one (rw (← c.as_slice.ensures) c.method-item.is)) c.main_code.ensures
