use mathlib.Core.Path.{subst}
use mathlib.Core.List.{List}
use native.Mathlib.Omega.{arith}
use lib.ListN.{length}
use Rattle.std.proofs.lemmas.List.{take_all}
use Rattle.rules.specs.declared.Entry.{Entry}
use Rattle.rules.specs.Pool.{node}
use Rattle.rules.specs.Layout.{edition_of}
use Rattle.layout_laws.proofs.Written.{Fine, fine_node, put_read, put_fit}
use Rattle.pool.proofs.put_node.Goals as goal

pub write_slot-requires : goal.write_slot-requires
write_slot-requires c =
    record {
      in_pool = c.requires.in_pool;
      level_le_most_slots = c.requires.level_le_most_slots;
      few = c.requires.few;
      small_all = c.requires.small_all;
    }

pub returns : goal.returns
returns c =
    let e = edition_of c.args.pool.now in
    let es = c.args.es.now in
    let n = length es in
    let g = subst (λ (xs : List Entry). Fine e (node c.args.level xs)) (take_all n es (omega arith))
    (fine_node e c.args.level es n c.requires.few c.requires.kind_all) in
    record {
      is = rw c.write_slot.ensures (put_read c.requires.fit_2 c.requires.in_pool g);
      fit = rw c.write_slot.ensures (put_fit c.requires.fit_2 c.requires.in_pool g);
    }
