-- The clocks of a circuit that is made of nets that are the mirror's bits.
use Rattle.std.proofs.Common.{refl, ◌+◌, zero, suc, ◌≤◌, nat_lt, ◌≡◌, ℕ, ◌<◌, Bool, true, false, not, List, [], ◌∷◌, ◌++◌, map, length, get_or, slice_get, Some, replicate, IsTrue, ap, sym, ◌∙◌, subst, arith, length-append}
use Rattle.std.specs.List.{range_with_len, list_all, AllByRecursion}
use Rattle.std.proofs.lemmas.Bool.Decides.{nat_tests}
use Rattle.std.proofs.lemmas.Bool.{and_parts}
use Rattle.qz_values.specs.declared.Ty.{Ty}
use Rattle.qz_values.specs.declared.Ty.TheVariants as ty
use Rattle.qz_values.specs.Values.{no}
use Rattle.qz_syntax.specs.declared.declarations.Formal.{Formal}
use Rattle.qz_syntax.specs.declared.declarations.Port.{Port}
use Rattle.qz_syntax.specs.DoubleNames.{formal_names, are_distinct}
use Rattle.qz_first.specs.Does.{port_of}
use Rattle.qz_first.specs.FirstLanguage.{is_event_output, IsFirst}
use Rattle.qz_first.proofs.FirstSteps.{output_parts}
use Rattle.qz_first.specs.RestsBelow.{rests_below}
use Rattle.qz_first.proofs.RestsLemmas.{rests_below_is}
use Rattle.qz_first.proofs.Declaring.{AreSound, all_declared}
use Rattle.std.proofs.lemmas.List.{get_or-map}
use Rattle.std.proofs.lemmas.List.FromFn.{fill_by_all}
use Rattle.std.proofs.lemmas.Option.{slice_get-get_or}
use Rattle.std.proofs.Math.ListN.{get_or-append, length-map}
use Rattle.std.proofs.Math.Seq.{get_or-append_seam}
use Rattle.qz_syntax.specs.declared.modules.Module.{Module}
use Rattle.qz_first.specs.declared.driven.DrivenWrite.{DrivenWrite}
use Rattle.qz_first.specs.declared.driven.DrivenPlace.{DrivenPlace}
use Rattle.qz_verilog.specs.declared.nets.Ref.{Ref}
use Rattle.qz_verilog.specs.declared.nets.Ref.TheVariants.{Reg}
use Rattle.qz_verilog.specs.declared.nets.Rhs.{Rhs}
use Rattle.qz_verilog.specs.declared.modules.VModule.{VModule}
use Rattle.qz_first.specs.declared.wires.Wires.{Wires}
use Rattle.qz_first.specs.Driven.{writes_as_bits, rests_as_bits, AreDriven, DeclaresRow}
use Rattle.qz_first.specs.Implements.{step_writes, step_rests, IsStep}
use Rattle.qz_first.specs.Mirror.{Bits, Control, mirror_of, is_driven}
use Rattle.qz_first.specs.BitNets.{Nets, Settles, IsBitClock, IsDeclared, IsBit, IsBitModule, bit_at, bool_wire, rights_of}
use Rattle.qz_first.specs.WireTable.{rights, Reads}

-- a row of driven nets, read as bits
row_is : (nets : Nets) (bits : Bits) (row : List Ref) (n : ℕ) → length row ≡ n → AreDriven nets bits row
    → map (bit_at nets) row ≡ map (is_driven bits) (range_with_len 0 n)
row_is nets bits row n count driven =
    fill_by_all (is_driven bits) (map (bit_at nets) row) n false (length-map row (bit_at nets) ∙ count)
    (λ k within. let inside : k < length row = omega arith in get_or-map (bit_at nets) row k (Reg 0) false inside ∙ driven k (Reg 0) inside)

-- an item of a list with one more item
at_front : (row : List Ref) (last : Ref) (k : ℕ) → k < length row → slice_get (row ++ last ∷ []) k ≡ Some (get_or row k last)
at_front row last k within =
    slice_get-get_or (row ++ last ∷ []) k last (omega (arith, length-append row (last ∷ [])))
    ∙ ap Some (get_or-append row (last ∷ []) last k within)

at_last : (row : List Ref) (last : Ref) → slice_get (row ++ last ∷ []) (length row) ≡ Some last
at_last row last =
    slice_get-get_or (row ++ last ∷ []) (length row) last (omega (arith, length-append row (last ∷ [])))
    ∙ ap Some (get_or-append_seam row last [] last)

-- what the nets of a circuit mean in each reading of its table
pub record IsMade (m : Module) (v : VModule) (table : Wires) (start always : Ref) (writes : List DrivenWrite) (rests : List DrivenPlace) : Type 0 where
  pub wires : rights_of v ≡ rights table
  pub starting : (nets : Nets) → Reads nets table → bit_at nets start ≡ not (nets.registers (length m.labels))
  pub always_true : (nets : Nets) → Reads nets table → bit_at nets always ≡ true
  pub written : (nets : Nets) → Reads nets table
      → writes_as_bits nets writes ≡ (mirror_of m.body).start (bit_at nets start) ++ (mirror_of m.body).resume nets.registers (bit_at nets always)
  pub rested : (nets : Nets) → Reads nets table
      → rests_as_bits nets rests ≡ (mirror_of m.body).enter (bit_at nets start) ++ (mirror_of m.body).move nets.registers
  pub count : length v.outs ≡ length m.formals
  pub outs : (nets : Nets) → Reads nets table → AreDriven nets (writes_as_bits nets writes) v.outs
  pub nexts : (nets : Nets) → Reads nets table → (row : List Ref) × (v.nexts ≡ row ++ always ∷ [])
      × (length row ≡ length m.labels) × AreDriven nets (rests_as_bits nets rests) row

module _ (m : Module) (v : VModule) (table : Wires) (start always : Ref) (writes : List DrivenWrite) (rests : List DrivenPlace)
    (made : IsMade m v table start always writes rests) where
  pub clock_is_step : (registers : Control) (outs : List Bool) (next : Control) → IsBitClock v registers outs next → IsStep m registers outs next
  clock_is_step registers outs next clock =
      let nets : Nets = record { registers = registers; wires = clock.wires } in
      let P : List Rhs → Type 0 = λ wires. Settles wires nets in
      let reads : Reads nets table = record { settles = subst P made.wires clock.settles } in
      let starting = made.starting nets reads in
      let acting = made.always_true nets reads in
      let body = mirror_of m.body in
      let written : writes_as_bits nets writes ≡ step_writes m registers =
      made.written nets reads ∙ (λ i. body.start (starting i) ++ body.resume registers (acting i)) in
      let rested : rests_as_bits nets rests ≡ step_rests m registers =
      made.rested nets reads ∙ ap (λ b. body.enter b ++ body.move registers) starting in
      let nexts = made.nexts nets reads in
      let source : (k : ℕ) (net : Ref) → slice_get (nexts.0 ++ always ∷ []) k ≡ Some net → next k ≡ bit_at nets net =
      λ k net at. clock.takes k net (ap (λ row. slice_get row k) nexts.1 ∙ at) in
      record {
        outs_are = clock.outs_are ∙ row_is nets (writes_as_bits nets writes) v.outs (length m.formals) made.count (made.outs nets reads)
            ∙ ap (λ bits. map (is_driven bits) (range_with_len 0 (length m.formals))) written;
        places = λ place within.
            let inside : place < length nexts.0 = let same = nexts.2 in omega arith in
            source place _ (at_front nexts.0 always place inside) ∙ nexts.3 place always inside ∙ ap (λ bits. is_driven bits place) rested;
        started = ap next (sym nexts.2) ∙ source (length nexts.0) always (at_last nexts.0 always) ∙ acting;
      }

-- numbers that count from 0 are below their count, and below one more
range_below : (n : ℕ) → list_all (λ place. nat_lt place (n + 1)) (range_with_len 0 n) ≡ true
range_below n = by_length 0 n (omega arith)
  where
    by_length : (from len : ℕ) → from + len ≤ n → list_all (λ place. nat_lt place (n + 1)) (range_with_len from len) ≡ true
    by_length from zero h = refl
    by_length from (suc len) h =
        let low : nat_lt from (n + 1) ≡ true = grind (arith, nat_tests) in
        rw low (by_length (from + 1) len (omega arith))

-- the places of a module of the first language have registers before the last one
pub first_rests_below : (m : Module) → IsFirst m → rests_below (length m.labels + 1) m.body ≡ true
first_rests_below m first =
    let registers = length m.labels + 1 in
    sym (rests_below_is registers m.body) ∙ ap (λ places. list_all (λ place. nat_lt place registers) places) first.places
    ∙ range_below (length m.labels)

port_names : (formals : List Formal) → formal_names formals ≡ map (λ (output : Port). output.name) (map port_of formals)
port_names [] = refl
port_names (formal ∷ formals) = ap (λ names. formal.name ∷ names) (port_names formals)

bool_ports : (formals : List Formal) → list_all (λ (formal : Formal). is_event_output formal) formals ≡ true
    → AllByRecursion (λ (output : Port). output.ty ≡ ty.Bool) (map port_of formals)
bool_ports [] h = tt
bool_ports (formal ∷ formals) h =
    let both = and_parts _ _ h in ((output_parts formal both.0).2, bool_ports formals both.1)

all_bits : (places : ℕ) → AllByRecursion IsBit (replicate places no ++ no ∷ [])
all_bits zero = ((false, refl), tt)
all_bits (suc places) = ((false, refl), all_bits places)

-- wires of one bit
bool_wires : (rights : List Rhs) → AllByRecursion (λ (wire : Ty × Rhs). wire.0 ≡ ty.Bool) (map bool_wire rights)
bool_wires [] = tt
bool_wires (right ∷ rights) = (refl, bool_wires rights)

pub rights_there : (rights : List Rhs) → map (λ (wire : Ty × Rhs). wire.1) (map bool_wire rights) ≡ rights
rights_there [] = refl
rights_there (right ∷ rights) = ap (λ xs. right ∷ xs) (rights_there rights)

module _ (v : VModule) (table : Wires) (registers : ℕ) where
  -- a module whose table is sound, and whose nets are the table's
  pub is_bit_module : (m : Module) → IsFirst m → v.inputs ≡ [] → v.outputs ≡ map port_of m.formals → v.regs ≡ replicate (length m.labels) no ++ no ∷ []
      → v.wires ≡ map bool_wire (rights table) → length v.regs ≡ registers → length v.nexts ≡ registers → length v.outs ≡ length v.outputs
      → DeclaresRow registers table v.outs → DeclaresRow registers table v.nexts → IsBitModule v
  is_bit_module m first none ports begins wires regs clocked driven outs nexts =
      let P : List Rhs → Type 0 = λ rights. AreSound registers rights in
      let Q : ℕ → Type 0 = λ n. AreSound n (rights_of v) in
      let rights_are : rights_of v ≡ rights table = ap (map (λ (wire : Ty × Rhs). wire.1)) wires ∙ rights_there (rights table) in
      let count : length v.wires ≡ length (rights table) = ap length wires ∙ length-map (rights table) bool_wire in
      let declared = λ (row : List Ref) (all : DeclaresRow registers table row).
      let R : ℕ → ℕ → Type 0 = λ n k. AllByRecursion (IsDeclared n k) row in
      let here : R registers (length (rights table)) =
      all_declared registers (length (rights table)) row (λ k d within. (all.each k d within).declared) in
      let S : ℕ → Type 0 = λ n. R n (length v.wires) in
      subst S (sym regs) (subst (R registers) (sym count) here) in
      record {
        inputs = none;
        names = subst (λ (some : List Port). IsTrue (are_distinct (map (λ (output : Port). output.name) some))) (sym ports)
            (subst (λ names. IsTrue (are_distinct names)) (port_names m.formals) first.names);
        bools = subst (λ (some : List Port). AllByRecursion (λ (output : Port). output.ty ≡ ty.Bool) some) (sym ports) (bool_ports m.formals first.formals);
        begins = subst (λ regs. AllByRecursion IsBit regs) (sym begins) (all_bits (length m.labels));
        wires_are_bools = subst (λ (some : List (Ty × Rhs)). AllByRecursion (λ (wire : Ty × Rhs). wire.0 ≡ ty.Bool) some) (sym wires) (bool_wires (rights table));
        wires = subst Q (sym regs) (subst P (sym rights_are) outs.sound.each);
        outs = declared v.outs outs;
        nexts = declared v.nexts nexts;
        driven = driven;
        clocked = clocked ∙ sym regs;
      }
