use Rattle.program_links.proofs.assembly.link_rows.Goals as goal

pub returns : goal.returns
returns g c = record {
  classes = c.in_ok-classes.ensures;
  no_class = c.in_ok-no_class.ensures;
  types = c.in_ok-types.ensures;
  no_type = c.in_ok-no_type.ensures;
}
