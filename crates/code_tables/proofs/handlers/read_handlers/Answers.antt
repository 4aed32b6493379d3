use Rattle.class_input.specs.Reading.{seen}
use Rattle.code_tables.specs.CodeTables.{AreHandlers}
use Rattle.code_tables.specs.TableReading as reading
use Rattle.code_tables.proofs.TableLaws.{is_found, is_only, handlers_exact}
use Rattle.code_tables.proofs.handlers.read_handlers.Goals as goal

pub returns-clause-found : goal.returns-clause-found
returns-clause-found c = is_found (AreHandlers c.args.pool.now c.args.starts.now) (reading.handlers c.args.pool.now c.args.starts.now) (handlers_exact c.args.pool.now c.args.starts.now) (seen c.args.input.now) c.handler_table.result c.handler_table.new.input c.are_bytes.ensures c.handler_table.ensures

pub returns-clause-only : goal.returns-clause-only
returns-clause-only c = λ text rest handlers e is. is_only (AreHandlers c.args.pool.now c.args.starts.now) (reading.handlers c.args.pool.now c.args.starts.now) (handlers_exact c.args.pool.now c.args.starts.now) (seen c.args.input.now) c.handler_table.result c.handler_table.new.input text rest handlers e is c.handler_table.ensures
