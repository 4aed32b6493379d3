use Rattle.program_links.proofs.Knowing.{faults_are}
use Rattle.program_links.proofs.known.faults.Goals as goal

pub returns : goal.returns
returns c =
    faults_are c.args.set.now
    (record {
      arithmetic = c.thrown.result;
      null_pointer = c.thrown-7.result;
      incompatible_change = c.thrown-5.result;
      negative_size = c.thrown-6.result;
      class_cast = c.thrown-4.result;
      array_index = c.thrown-2.result;
      array_store = c.thrown-3.result;
    })
    c.thrown.ensures c.thrown-2.ensures c.thrown-3.ensures c.thrown-4.ensures c.thrown-5.ensures c.thrown-6.ensures c.thrown-7.ensures
