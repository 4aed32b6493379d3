use Rattle.class_input.specs.Reading.{seen}
use Rattle.code_tables.specs.CodeTables.{AreLines}
use Rattle.code_tables.specs.TableReading as reading
use Rattle.code_tables.proofs.TableLaws.{is_found, is_only, lines_exact}
use Rattle.code_tables.proofs.lines.read_lines.Goals as goal

pub returns-clause-found : goal.returns-clause-found
returns-clause-found c = is_found (AreLines c.args.starts.now) (reading.lines c.args.starts.now) (lines_exact c.args.starts.now) (seen c.args.input.now) c.line_table.result c.line_table.new.input c.are_bytes.ensures c.line_table.ensures

pub returns-clause-only : goal.returns-clause-only
returns-clause-only c = λ text rest lines e is. is_only (AreLines c.args.starts.now) (reading.lines c.args.starts.now) (lines_exact c.args.starts.now) (seen c.args.input.now) c.line_table.result c.line_table.new.input text rest lines e is c.line_table.ensures
