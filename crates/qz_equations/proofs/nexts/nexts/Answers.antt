use Rattle.std.proofs.Common.{◌≡◌, ◌+◌, ◌∷◌, ◌++◌, ℕ, Bool, List, ap, ap₂, sym, subst, ◌∙◌, arith, length, map}
use Rattle.std.specs.Prelude.{replicate}
use Rattle.std.specs.List.{range_with_len}
use Rattle.std.proofs.lemmas.Option.{same_Some, slice_get_within}
use Rattle.qz_values.specs.declared.Ty.{Ty}
use Rattle.qz_values.specs.declared.Ty.TheVariants.{Bool as Truth}
use Rattle.qz_values.specs.declared.Value.{Value}
use Rattle.qz_values.specs.Values.{truth_of, value_of, bits_of}
use Rattle.qz_verilog.specs.declared.nets.Ref.{Ref}
use Rattle.qz_verilog.specs.Validity.{AreNetsOf}
use Rattle.qz_verilog.specs.Meaning.{value_at}
use Rattle.qz_verilog.specs.Simulation.{row_of}
use Rattle.qz_system.specs.Nexts.{rests_next, next_store}
use Rattle.qz_wires.specs.WireTable.{types_in}
use Rattle.qz_wires.proofs.Through.{through}
use Rattle.qz_equations.specs.declared.tallies.StoreNets.{StoreNets}
use Rattle.qz_equations.specs.Registers.{cell_types, marks_of, bits_of_stores}
use Rattle.qz_equations.proofs.InstanceLemmas.{cell_there}
use Rattle.qz_equations.proofs.Keeping.{last_kept, flags_kept, stores_kept}
use Rattle.qz_equations.proofs.RegisterLemmas.{store_count}
use Rattle.qz_equations.proofs.NextLemmas.{nets_joined, flags_typed, ArePlaced, marks_typed, values_typed, register_kinds, truth_value, typed_value, flag_values, mark_values, store_values, bits_coming, row_parts}
use Rattle.qz_equations.proofs.nexts.nexts.Goals as goal

pub next_stores-requires-clause-last : goal.next_stores-requires-clause-last
next_stores-requires-clause-last c = last_kept c.in_ok-places.ensures.extends c.requires.last

pub returns-clause-extends : goal.returns-clause-extends
returns-clause-extends c = through c.in_ok-places.ensures.extends (through c.in_ok-stores.ensures.extends c.in_ok-started.ensures.extends)

pub returns-clause-typed : goal.returns-clause-typed
returns-clause-typed c =
    let parts = c.args.parts.now in
    let types = types_in c.flag.new.self in
    let flags = c.in_ok-places.places.items in
    let stores = c.in_ok-stores.stores.items in
    let marks = map (λ (s : StoreNets). s.mark) stores in
    let values = map (λ (s : StoreNets). s.value) stores in
    let places = flags_typed types flags (length parts.places) c.in_ok-places.ensures.size
    (flags_kept (through c.in_ok-stores.ensures.extends c.in_ok-started.ensures.extends) c.in_ok-places.ensures.typed) in
    let placed : ArePlaced types parts.cells stores = record { each = (stores_kept c.in_ok-started.ensures.extends c.in_ok-stores.ensures.typed).each } in
    let row : AreNetsOf types (Truth ∷ (replicate (length parts.places) Truth ++ (replicate (length parts.cells) Truth ++ cell_types parts)))
    (c.in_ok-started.started ∷ (flags ++ (marks ++ values))) = (
      c.in_ok-started.ensures.typed,
      nets_joined types (replicate (length parts.places) Truth) (replicate (length parts.cells) Truth ++ cell_types parts) flags (marks ++ values) places
          (nets_joined types (replicate (length parts.cells) Truth) (cell_types parts) marks values
          (marks_typed types parts.cells stores c.in_ok-stores.ensures.size placed) (values_typed types parts.cells stores c.in_ok-stores.ensures.size placed)),
    ) in
    let is : c.in_ok-row.row.items ≡ c.in_ok-started.started ∷ (flags ++ (marks ++ values)) = c.in_ok-row.ensures
    ∙ ap₂ (λ (f : List Ref) (s : List StoreNets). c.in_ok-started.started ∷ (f ++ (map (λ (x : StoreNets). x.mark) s ++ map (λ (x : StoreNets). x.value) s)))
    c.deref.ensures.value c.deref-2.ensures.value in
    subst (λ (ts : List Ty). AreNetsOf types ts c.in_ok-row.row.items) (sym (register_kinds parts))
    (subst (AreNetsOf types (Truth ∷ (replicate (length parts.places) Truth ++ (replicate (length parts.cells) Truth ++ cell_types parts)))) (sym is) row)

pub returns-clause-means : goal.returns-clause-means
returns-clause-means c = λ settled reads typed knows laters know ends w comes.
    let parts = c.args.parts.now in
    let flags = c.in_ok-places.places.items in
    let stores = c.in_ok-stores.stores.items in
    let at_stores = c.in_ok-started.ensures.extends.reads settled reads in
    let at_places = c.in_ok-stores.ensures.extends.reads settled at_stores in
    let bits = λ (n : ℕ). rests_next parts know n in
    let shown = c.in_ok-places.ensures.means settled at_places knows laters know ends in
    let kept = flags_kept (through c.in_ok-stores.ensures.extends c.in_ok-started.ensures.extends) c.in_ok-places.ensures.typed in
    let placed = stores_kept c.in_ok-started.ensures.extends c.in_ok-stores.ensures.typed in
    let held = c.in_ok-stores.ensures.means settled at_stores knows laters know ends in
    let started = c.in_ok-started.ensures.means settled reads in
    let places : map (value_at settled) flags ≡ map truth_of w.places.items =
    flag_values settled bits flags 0 (λ n net at.
    let here : n ≡ 0 + n = omega arith in
    truth_value (value_at settled net) (typed net Truth (kept.each n net at)) ∙ ap truth_of (shown n net at) ∙ ap (λ m. truth_of (bits m)) here)
    ∙ ap (λ m. map truth_of (map bits (range_with_len 0 m))) c.in_ok-places.ensures.size ∙ ap (map truth_of) (sym comes.places) in
    let many = store_count parts w comes.fits in
    let size = c.in_ok-stores.ensures.size in
    let marks = map (λ (s : StoreNets). s.mark) stores in
    let values = map (λ (s : StoreNets). s.value) stores in
    let mark_row : map (value_at settled) marks ≡ marks_of w.stores.items =
    mark_values settled stores w.stores.items (size ∙ sym many) (λ n place s at is.
    let within = slice_get_within stores n place at in
    let cell = cell_there parts n (omega (arith, within, size)) in
    let e = same_Some s (next_store parts know knows laters n cell.0) (sym is ∙ comes.stores n cell.0 cell.1) ∙ bits_coming parts know knows laters n cell.0 in
    let here = held n cell.0 place cell.1 at in
    truth_value (value_at settled place.mark) (typed place.mark Truth (placed.each n cell.0 place cell.1 at).mark_net)
    ∙ ap truth_of (here.mark ∙ sym (ap (λ (p : Bool × ℕ). p.0) e))) in
    let value_row : map (value_at settled) values ≡ row_of (cell_types parts) (bits_of_stores w.stores.items) =
    store_values settled parts.cells stores w.stores.items size many (λ n cell place s cell_at at is.
    let e = same_Some s (next_store parts know knows laters n cell) (sym is ∙ comes.stores n cell cell_at) ∙ bits_coming parts know knows laters n cell in
    let here = held n cell place cell_at at in
    sym (typed_value cell.ty (value_at settled place.value) (typed place.value cell.ty (placed.each n cell place cell_at at).value_net))
    ∙ ap (λ (x : Value). value_of cell.ty (bits_of x)) here.value ∙ sym (ap (λ (p : Bool × ℕ). value_of cell.ty p.1) e)) in
    let first : value_at settled c.in_ok-started.started ≡ truth_of w.started = started ∙ ap truth_of (sym comes.started) in
    let is : c.in_ok-row.row.items ≡ c.in_ok-started.started ∷ (flags ++ (marks ++ values)) = c.in_ok-row.ensures
    ∙ ap₂ (λ (f : List Ref) (s : List StoreNets). c.in_ok-started.started ∷ (f ++ (map (λ (x : StoreNets). x.mark) s ++ map (λ (x : StoreNets). x.value) s)))
    c.deref.ensures.value c.deref-2.ensures.value in
    ap (map (value_at settled)) is ∙ row_parts settled c.in_ok-started.started flags marks values
    ∙ (λ i. first i ∷ (places i ++ (mark_row i ++ value_row i)))
