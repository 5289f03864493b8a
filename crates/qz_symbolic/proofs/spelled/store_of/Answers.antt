use Rattle.std.proofs.Common.{◌≡◌, ◌∙◌, ℕ, List, map, length, ap, sym, subst, arith}
use Rattle.std.specs.List.{range_with_len}
use Rattle.qz_rails.specs.Bits.{number_of, bits_in, variables_in}
use Rattle.qz_symbolic.specs.Variables.{Spot, spots, AreSpots, cell_width}
use Rattle.qz_symbolic.proofs.Spelling.{spots_within, cell_variables_long, variable_read, variables_read, stored_number, told_bits}
use Rattle.qz_symbolic.proofs.spelled.store_of.Goals as goal

pub variable-requires-clause-variables : goal.variable-requires-clause-variables
variable-requires-clause-variables c =
    let same : c.var.new.self.vars ≡ length (spots c.args.parts.now) = c.in_ok-pending.ensures.extends.vars ∙ c.requires.count in
    λ k d below.
    let within = spots_within (spots c.args.parts.now) (map (Spot.Stored c.args.n) (range_with_len 0 (cell_width c.args.parts.now c.args.n))) c.deref.result.now
    (subst (λ (xs : List ℕ). AreSpots c.args.parts.now (map (Spot.Stored c.args.n) (range_with_len 0 (cell_width c.args.parts.now c.args.n))) xs) (sym c.deref.ensures.value) c.requires.own.bits)
    k d below in
    omega (arith, within, same)

pub variable-requires-clause-width : goal.variable-requires-clause-width
variable-requires-clause-width c =
    ap length c.deref.ensures.value
    ∙ cell_variables_long c.args.parts.now c.args.n c.args.cell.now c.requires.cell c.args.own.now.bits.items c.requires.own.bits

pub returns-clause-store : goal.returns-clause-store
returns-clause-store c = record {
  fits = record {
    pending = let small = c.in_ok-pending.ensures.below in let longer = c.in_ok-rail.ensures.extends.longer in omega (arith, small, longer);
    bits = c.in_ok-rail.ensures.rail.bits;
    width = c.in_ok-rail.ensures.rail.width;
  };
  pending = λ reading v views.
      c.in_ok-pending.ensures.means reading (c.in_ok-rail.ensures.extends.reads reading views.reads)
      ∙ variable_read c.args.parts.now v reading views.spells c.args.own.now.mark (Spot.Mark c.args.n) c.requires.own.mark;
  bits = λ reading v views.
      told_bits c.args.cell.now.ty (reading.values c.in_ok-rail.rail.clash.0) (reading.values c.in_ok-rail.rail.known.0)
      (number_of (bits_in reading c.in_ok-rail.rail.bits.items)) (number_of (variables_in reading c.deref.result.now))
      (c.in_ok-rail.ensures.means reading views.reads)
      ∙ ap (λ (xs : List ℕ). number_of (variables_in reading xs)) c.deref.ensures.value
      ∙ ap number_of (variables_read c.args.parts.now v reading views.spells (map (Spot.Stored c.args.n) (range_with_len 0 (cell_width c.args.parts.now c.args.n)))
      c.args.own.now.bits.items c.requires.own.bits)
      ∙ stored_number c.args.parts.now v views.spells.fits c.args.n c.args.cell.now c.requires.cell;
}
