use Rattle.program_links.proofs.Whole.{linked}
use Rattle.program_links.proofs.assembly.assemble.Goals as goal

pub returns-clause-links : goal.returns-clause-links
returns-clause-links g c =
    let code = c.args.code in
    let rows = c.args.rows in
    let ends = c.args.ends in
    let lists = c.into_lists-lists.result in
    let shown = c.into_lists-lists.ensures in
    linked g.T.Tag.none_of c.args._set.now c.args._main.0 c.args.tables
    (record {
      main = ends.main;
      arguments = code.arguments;
      faults = ends.faults;
      methods = code.methods;
      no_method = ends.no_method;
      classes = rows.classes;
      no_class = rows.no_class;
      types = rows.types;
      no_type = rows.no_type;
      tables = lists.tables;
      rows = lists.rows;
      calls = lists.calls;
      texts = ends.texts;
      string = ends.string;
      chars = code.chars;
      value = ends.value;
      statics = ends.statics;
    })
    c.requires.closed (record { calls = shown.calls; tables = shown.tables; rows = shown.rows; texts = c.requires.ends.texts }) shown.distinct
    c.requires.code.methods c.requires.ends.no_method c.requires.rows.classes c.requires.rows.no_class c.requires.rows.types c.requires.rows.no_type
    c.requires.ends.faults c.requires.ends.main c.requires.code.arguments c.requires.ends.string c.requires.code.chars c.requires.ends.value
