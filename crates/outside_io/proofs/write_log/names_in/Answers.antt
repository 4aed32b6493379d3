use Rattle.std.proofs.Common.{arith}
use Rattle.outside_io.proofs.Names.{walk_starts, walk_fits, walk_on, walk_ends}
use Rattle.outside_io.proofs.write_log.names_in.Goals as goal

pub split_at-requires : goal.split_at-requires
split_at-requires c =
    let fits = walk_fits c.args.sizes.now c.args.text.now c.args.dir.now c.loop-path_len.rest.now c.loop-path_len.path_len-index c.loop-path_len.found c.loop-path_len-test.true c.loop-path_len.invariant in
    omega (arith, fits)

pub split_at-requires-in-loop-path_len : goal.split_at-requires-in-loop-path_len
split_at-requires-in-loop-path_len c =
    let fits = walk_fits c.args.sizes.now c.args.text.now c.args.dir.now c.loop-path_len.rest.now c.loop-path_len.path_len-index c.loop-path_len.found c.loop-path_len-test.true c.loop-path_len.invariant in
    omega (arith, fits, c.split_at.ensures.back_len)

pub loop-path_len-init : goal.loop-path_len-init
loop-path_len-init c = walk_starts c.args.sizes.now c.args.text.now c.args.dir.now c.new-found.result c.requires.whole c.requires.texts c.new-found.ensures.empty

pub loop-path_len-preserved : goal.loop-path_len-preserved
loop-path_len-preserved c =
    walk_on c.args.sizes.now c.args.text.now c.args.dir.now c.loop-path_len.rest.now c.loop-path_len.path_len-index c.loop-path_len.found c.add_name.new.found
    c.split_at.result.0.now c.split_at.result.1.now c.split_at-in-loop-path_len.result.1.now c.loop-path_len-test.true
    c.split_at.ensures.front c.split_at.ensures.back c.split_at-in-loop-path_len.ensures.back c.loop-path_len.invariant c.in_ok-add_name.ensures

pub returns : goal.returns
returns c = walk_ends c.args.sizes.now c.args.text.now c.args.dir.now c.loop-path_len.rest.now c.loop-path_len.path_len-index c.loop-path_len.found c.loop-path_len-test.false c.loop-path_len.invariant
