use Rattle.set_loader.proofs.Loading.{whole, due, told, in_profile}
use Rattle.set_loader.proofs.load.load_set.Goals as goal

pub returns-clause-whole : goal.returns-clause-whole
returns-clause-whole c = whole c.args.names c.args.files.now c.judge.result c.judge.ensures.answer

pub returns-clause-due : goal.returns-clause-due
returns-clause-due c = due c.args.names c.args.files.now c.judge.result c.judge.ensures.answer

pub returns-clause-told : goal.returns-clause-told
returns-clause-told c = told c.args.names c.args.files.now c.judge.result c.judge.ensures.answer

pub returns-clause-in_profile : goal.returns-clause-in_profile
returns-clause-in_profile c = in_profile c.args.names c.args.files.now c.judge.result c.judge.ensures.answer
