-- Lines that take a draft to the last line of a module.
use Rattle.std.proofs.Common.{◌≡◌, ℕ, ◌+◌, ◌-◌, ◌<◌, ◌≤◌, Bool, true, false, not, ◌&&◌, List, [], ◌∷◌, ◌++◌, Option, Some, None, length, map, codes, refl, inl, inr, sym, ap, ◌∙◌, subst, arith, append_assoc, append-nil, length-append, ◌^◌}
use Rattle.std.specs.List.{AllByRecursion}
use Rattle.std.specs.Prelude.{slice_get, if◌then◌else◌, nat_le, nat_lt}
use Rattle.std.specs.Str.{bytes_eq}
use Rattle.std.proofs.lemmas.List.{map-append}
use Rattle.std.proofs.lemmas.Bool.{and_parts, or_parts, or_from, not-true, ltb-true, leb-true}
use Rattle.qz_values.specs.declared.Ty.{Ty}
use Rattle.qz_values.specs.declared.Ty.TheVariants as ty
use Rattle.qz_values.specs.declared.Value.{Value}
use Rattle.qz_values.specs.declared.Op2.{Op2}
use Rattle.qz_values.specs.declared.Op2.TheVariants as op
use Rattle.qz_values.specs.Types.{IsType, width_of, is_type, is_bool, is_vector, is_same_type}
use Rattle.qz_values.specs.Values.{type_of, bits_of, default_of, IsValue}
use Rattle.qz_values.specs.Tables.{takes2, gives2, type2_of, choose_type, bit_type, slice_type, concat_type}
use Rattle.qz_syntax.specs.declared.declarations.Port.{Port}
use Rattle.qz_syntax.specs.DoubleNames.{are_distinct, is_among}
use Rattle.qz_verilog.specs.declared.nets.Ref.{Ref}
use Rattle.qz_verilog.specs.declared.nets.Rhs.{Rhs}
use Rattle.qz_verilog.specs.declared.nets.Rhs.TheVariants as rhs
use Rattle.qz_verilog.specs.declared.modules.VModule.{VModule}
use Rattle.qz_verilog.specs.Types.{NetTypes, net_type, right_side_type, given1, given2, given3, inverted_type, is_value, has_sign}
use Rattle.qz_verilog.specs.Validity.{port_names, port_types, register_types, declared_types, AreWires}
use Rattle.qz_vread.specs.declared.drafts.Draft.{Draft}
use Rattle.qz_vread.specs.declared.drafts.Stage.TheVariants as stage
use Rattle.qz_vread.specs.Naming.{IsNamed}
use Rattle.qz_vread.specs.Drafts.{types_in, IsDriven, IsOutputOf, IsInitialOf, IsNextOf}
use Rattle.qz_vtext.specs.Lines.{input_text, output_text, listed, numbered, register_line, register_lines, wire_line, wire_lines, assign_line, output_line, output_lines, initial_line, initial_lines, next_line, next_lines}
use Rattle.qz_vread.specs.Drafted.{AreAll, Drives, Begins, Feeds}
use Rattle.qz_vread.specs.Leading.{Path}
use Rattle.qz_vread.proofs.Advancing.{other_way}

slice_past : {A : Type 0} (past rest : List A) → slice_get (past ++ rest) (length past) ≡ slice_get rest 0
slice_past [] rest = refl
slice_past (x ∷ xs) rest = slice_past xs rest

next_here : {A : Type 0} (past rest all : List A) (k : ℕ) → past ++ rest ≡ all → length past ≡ k → slice_get rest 0 ≡ slice_get all k
next_here past rest all k split at = sym (slice_past past rest) ∙ ap (λ xs. slice_get xs (length past)) split ∙ ap (slice_get all) at

longer : {A B : Type 0} (xs : List A) (ys : List B) (x : A) (y : B) → length xs ≡ length ys → length (xs ++ x ∷ []) ≡ length (ys ++ y ∷ [])
longer xs ys x y e = simp length-append (omega arith)

one_more : {A : Type 0} (xs : List A) (x : A) (k : ℕ) → k ≡ length xs → k + 1 ≡ length (xs ++ x ∷ [])
one_more xs x k e = simp length-append (omega arith)

-- what the registers take, from some on
pub next_path : (d : Draft) (ls : List (List ℕ)) (m : VModule) (k : ℕ) (past rest : List Value) (done more all : List Ref)
    → past ++ rest ≡ d.registers → length past ≡ length done → k ≡ length done → done ++ more ≡ all
    → AreAll (Feeds (types_in d)) rest more → Path (record d { stage = stage.ModuleEnd; nexts = all }) ls m
    → Path (record d { stage = stage.Next; nexts = done }) (numbered (next_lines d.ports.inputs) k more ++ codes "  end" ∷ ls) m
next_path d ls m k past [] done [] all split len at whole are path =
    let here : Draft = record d { stage = stage.Next; nexts = done } in
    let after : Draft = record d { stage = stage.ModuleEnd; nexts = done } in
    let Q : Option Value → Type 0 = λ o. IsNextOf o here (codes "  end") after in
    let R : List Ref → Type 0 = λ ns. Path (record d { stage = stage.ModuleEnd; nexts = ns }) ls m in (
      after,
      (
        subst Q (next_here past [] d.registers (length done) split len) (record { is = refl; leads = refl }),
        subst R (sym whole ∙ append-nil done) path,
      ),
    )
next_path d ls m k past [] done (n ∷ more) all split len at whole are path = absurd are
next_path d ls m k past (r ∷ rest) done [] all split len at whole are path = absurd are
next_path d ls m k past (r ∷ rest) done (n ∷ more) all split len at whole are path =
    let here : Draft = record d { stage = stage.Next; nexts = done } in
    let after : Draft = record d { stage = stage.Next; nexts = done ++ n ∷ [] } in
    let line = next_line d.ports.inputs k n in
    let Q : Option Value → Type 0 = λ o. IsNextOf o here line after in (
      after,
      (
        subst Q (next_here past (r ∷ rest) d.registers (length done) split len)
            (record { what = n; right = are.0; is = ap (λ j. next_line d.ports.inputs j n) at; leads = refl }),
        next_path d ls m (k + 1) (past ++ r ∷ []) rest (done ++ n ∷ []) more all (append_assoc past (r ∷ []) rest ∙ split)
            (longer past done r n len) (one_more done n k at) (append_assoc done (n ∷ []) more ∙ whole) are.1 path,
      ),
    )

-- the initial values, from some on
pub initial_path : (d : Draft) (ls : List (List ℕ)) (m : VModule) (k : ℕ) (past rest : List Value) (done more all : List Value)
    → past ++ rest ≡ d.registers → length past ≡ length done → k ≡ length done → done ++ more ≡ all
    → AreAll Begins rest more → Path (record d { stage = stage.Always; values = all }) ls m
    → Path (record d { stage = stage.Initial; values = done }) (numbered initial_lines k more ++ codes "  end" ∷ ls) m
initial_path d ls m k past [] done [] all split len at whole are path =
    let here : Draft = record d { stage = stage.Initial; values = done } in
    let after : Draft = record d { stage = stage.Always; values = done } in
    let Q : Option Value → Type 0 = λ o. IsInitialOf o here (codes "  end") after in
    let R : List Value → Type 0 = λ vs. Path (record d { stage = stage.Always; values = vs }) ls m in (
      after,
      (
        subst Q (next_here past [] d.registers (length done) split len) (record { is = refl; leads = refl }),
        subst R (sym whole ∙ append-nil done) path,
      ),
    )
initial_path d ls m k past [] done (n ∷ more) all split len at whole are path = absurd are
initial_path d ls m k past (r ∷ rest) done [] all split len at whole are path = absurd are
initial_path d ls m k past (r ∷ rest) done (v ∷ more) all split len at whole are path =
    let here : Draft = record d { stage = stage.Initial; values = done } in
    let after : Draft = record d { stage = stage.Initial; values = done ++ v ∷ [] } in
    let line = initial_line k v in
    let Q : Option Value → Type 0 = λ o. IsInitialOf o here line after in (
      after,
      (
        subst Q (next_here past (r ∷ rest) d.registers (length done) split len)
            (record { what = v; right = are.0; is = ap (λ j. initial_line j v) at; leads = refl }),
        initial_path d ls m (k + 1) (past ++ r ∷ []) rest (done ++ v ∷ []) more all (append_assoc past (r ∷ []) rest ∙ split)
            (longer past done r v len) (one_more done v k at) (append_assoc done (v ∷ []) more ∙ whole) are.1 path,
      ),
    )

-- what drives the outputs, from some on
pub output_path : (d : Draft) (ls : List (List ℕ)) (m : VModule) (past rest : List Port) (done more all : List Ref)
    → past ++ rest ≡ d.ports.outputs → length past ≡ length done → done ++ more ≡ all
    → AreAll (Drives (types_in d)) rest more → Path (record d { stage = stage.Initial; outs = all }) ls m
    → Path (record d { stage = stage.Output; outs = done }) (output_lines d.ports.inputs rest more ++ codes "  initial begin" ∷ ls) m
output_path d ls m past [] done [] all split len whole are path =
    let here : Draft = record d { stage = stage.Output; outs = done } in
    let after : Draft = record d { stage = stage.Initial; outs = done } in
    let Q : Option Port → Type 0 = λ o. IsOutputOf o here (codes "  initial begin") after in
    let R : List Ref → Type 0 = λ ns. Path (record d { stage = stage.Initial; outs = ns }) ls m in (
      after,
      (
        subst Q (next_here past [] d.ports.outputs (length done) split len) (record { is = refl; leads = refl }),
        subst R (sym whole ∙ append-nil done) path,
      ),
    )
output_path d ls m past [] done (n ∷ more) all split len whole are path = absurd are
output_path d ls m past (r ∷ rest) done [] all split len whole are path = absurd are
output_path d ls m past (p ∷ rest) done (n ∷ more) all split len whole are path =
    let here : Draft = record d { stage = stage.Output; outs = done } in
    let after : Draft = record d { stage = stage.Output; outs = done ++ n ∷ [] } in
    let line = output_line d.ports.inputs p n in
    let Q : Option Port → Type 0 = λ o. IsOutputOf o here line after in (
      after,
      (
        subst Q (next_here past (p ∷ rest) d.ports.outputs (length done) split len)
            (record { what = n; right = are.0; is = refl; leads = refl }),
        output_path d ls m (past ++ p ∷ []) rest (done ++ n ∷ []) more all (append_assoc past (p ∷ []) rest ∙ split)
            (longer past done p n len) (append_assoc done (n ∷ []) more ∙ whole) are.1 path,
      ),
    )

-- the first line after the wires
pub after_wires : (d : Draft) (lines : List (List ℕ)) (m : VModule) → d.outs ≡ [] → IsDriven d → Path (record d { stage = stage.Output; outs = [] }) lines m
    → Path (record d { stage = stage.Net; outs = [] }) lines m
after_wires d [] m none driven path = absurd (other_stage path.0)
  where
    other_stage : stage.Output ≡ stage.Nothing → ⊥
    other_stage e = cc
after_wires d (line ∷ lines) m none driven path =
    (path.0, (inr (inr (record { driven = driven; output = moved (slice_get d.ports.outputs 0) path.1.0 })), path.1.1))
  where
    here : Draft
    here = record d { stage = stage.Output; outs = [] }

    moved : (o : Option Port) → IsOutputOf o (record d { stage = stage.Output; outs = [] }) line path.0 → IsOutputOf o (record d { stage = stage.Net; outs = [] }) line path.0
    moved (Some port) s = record { what = s.what; right = s.right; is = s.is; leads = s.leads }
    moved None s = record { is = s.is; leads = s.leads }

-- a right side that has a type has one that there is
type_from : (t : Ty) → is_type t ≡ true → IsType t
type_from t e =
    let parts = and_parts (nat_le 1 (width_of t)) (nat_le (width_of t) 64) e in
    record { at_least_1 = leb-true 1 (width_of t) parts.0; at_most_64 = leb-true (width_of t) 64 parts.1 }

one_bit : IsType ty.Bool
one_bit = record { at_least_1 = omega arith; at_most_64 = omega arith }

vector_type : (t : Ty) → is_vector t ≡ true → IsType t
vector_type ty.Bool e = one_bit
vector_type (ty.Bv w) e = type_from (ty.Bv w) e

if_some : (b : Bool) (s t : Ty) → (if b then Some s else None) ≡ Some t → (b ≡ true) × (s ≡ t)
if_some true s t e = (refl, cc)
if_some false s t e = absurd cc

typed_as : (s t : Ty) → s ≡ t → IsType s → IsType t
typed_as s t e is = let P : Ty → Type 0 = IsType in subst P e is

taken_type : (op : Op2) (s : Ty) → takes2 op s ≡ true → IsType (gives2 op s)
taken_type op.And s e = type_from s e
taken_type op.Or s e = type_from s e
taken_type op.Xor s e = type_from s e
taken_type op.Imp s e = one_bit
taken_type op.Add s e = vector_type s e
taken_type op.Sub s e = vector_type s e
taken_type op.Eq s e = one_bit
taken_type op.Ne s e = one_bit
taken_type op.Lt s e = one_bit
taken_type op.Le s e = one_bit
taken_type op.Gt s e = one_bit
taken_type op.Ge s e = one_bit

pub right_type : (types : NetTypes) (right : Rhs) (t : Ty) → right_side_type types right ≡ Some t → IsType t
right_type types (rhs.Const v) t e =
    let both = if_some (is_value v) (type_of v) t e in
    typed_as (type_of v) t both.1 (type_from (type_of v) (and_parts (is_type (type_of v)) (nat_lt (bits_of v) (2 ^ width_of (type_of v))) both.0).0)
right_type types (rhs.Invert a) t e = by (net_type types a) e
  where
    by : (s : Option Ty) → given1 inverted_type s ≡ Some t → IsType t
    by None e = absurd cc
    by (Some ty.Bool) e = typed_as ty.Bool t (if_some true ty.Bool t e).1 one_bit
    by (Some (ty.Bv w)) e = let both = if_some (is_vector (ty.Bv w)) (ty.Bv w) t e in typed_as (ty.Bv w) t both.1 (vector_type (ty.Bv w) both.0)
right_type types (rhs.Bin op a b) t e = by (has_sign op) e
  where
    two : (s u : Ty) → type2_of op s u ≡ Some t → IsType t
    two s u e =
        let both = if_some (is_same_type s u && takes2 op s) (gives2 op s) t e in
        typed_as (gives2 op s) t both.1 (taken_type op s (and_parts (is_same_type s u) (takes2 op s) both.0).1)

    second : (s : Ty) (u : Option Ty) → given1 (type2_of op s) u ≡ Some t → IsType t
    second s None e = absurd cc
    second s (Some u) e = two s u e

    first : (s u : Option Ty) → given2 (type2_of op) s u ≡ Some t → IsType t
    first None u e = absurd cc
    first (Some s) u e = second s u e

    by : (s : Bool) → (if s then given2 (type2_of op) (net_type types a) (net_type types b) else None) ≡ Some t → IsType t
    by false e = absurd cc
    by true e = first (net_type types a) (net_type types b) e
right_type types (rhs.Choose c a b) t e = first (net_type types c) (net_type types a) (net_type types b) e
  where
    three : (r s u : Ty) → choose_type r s u ≡ Some t → IsType t
    three r s u e =
        let both = if_some (is_bool r && (is_same_type s u && is_type s)) s t e in
        let rest = and_parts (is_bool r) (is_same_type s u && is_type s) both.0 in
        typed_as s t both.1 (type_from s (and_parts (is_same_type s u) (is_type s) rest.1).1)

    third : (r s : Ty) (u : Option Ty) → given1 (choose_type r s) u ≡ Some t → IsType t
    third r s None e = absurd cc
    third r s (Some u) e = three r s u e

    second : (r : Ty) (s u : Option Ty) → given2 (choose_type r) s u ≡ Some t → IsType t
    second r None u e = absurd cc
    second r (Some s) u e = third r s u e

    first : (r s u : Option Ty) → given3 choose_type r s u ≡ Some t → IsType t
    first None s u e = absurd cc
    first (Some r) s u e = second r s u e
right_type types (rhs.Bit a i) t e = by (net_type types a) e
  where
    by : (s : Option Ty) → given1 (λ s. bit_type s i) s ≡ Some t → IsType t
    by None e = absurd cc
    by (Some s) e = typed_as ty.Bool t (if_some (is_vector s && nat_lt i (width_of s)) ty.Bool t e).1 one_bit
right_type types (rhs.Slice a high low) t e = by (net_type types a) e
  where
    by : (s : Option Ty) → given1 (λ s. slice_type s high low) s ≡ Some t → IsType t
    by None e = absurd cc
    by (Some s) e =
        let both = if_some (is_vector s && (nat_le low high && nat_lt high (width_of s))) (ty.Bv (high - low + 1)) t e in
        let parts = and_parts (is_vector s) (nat_le low high && nat_lt high (width_of s)) both.0 in
        let ends = and_parts (nat_le low high) (nat_lt high (width_of s)) parts.1 in
        let lower : low ≤ high = leb-true low high ends.0 in
        let higher : high < width_of s = ltb-true high (width_of s) ends.1 in
        let wide = (vector_type s parts.0).at_most_64 in
        typed_as (ty.Bv (high - low + 1)) t both.1 (record { at_least_1 = omega arith; at_most_64 = omega arith })
right_type types (rhs.Concat a b) t e = first (net_type types a) (net_type types b) e
  where
    two : (s u : Ty) → concat_type s u ≡ Some t → IsType t
    two s u e =
        let both = if_some (is_vector s && (is_vector u && nat_le (width_of s + width_of u) 64)) (ty.Bv (width_of s + width_of u)) t e in
        let parts = and_parts (is_vector s) (is_vector u && nat_le (width_of s + width_of u) 64) both.0 in
        let ends = and_parts (is_vector u) (nat_le (width_of s + width_of u) 64) parts.1 in
        let room : width_of s + width_of u ≤ 64 = leb-true (width_of s + width_of u) 64 ends.1 in
        let some = (vector_type s parts.0).at_least_1 in
        typed_as (ty.Bv (width_of s + width_of u)) t both.1 (record { at_least_1 = omega arith; at_most_64 = omega arith })

    second : (s : Ty) (u : Option Ty) → given1 (concat_type s) u ≡ Some t → IsType t
    second s None e = absurd cc
    second s (Some u) e = two s u e

    first : (s u : Option Ty) → given2 concat_type s u ≡ Some t → IsType t
    first None u e = absurd cc
    first (Some s) u e = second s u e

-- the wires, from some on
pub wires_path : (d : Draft) (ls : List (List ℕ)) (m : VModule) (k : ℕ) (done more all : List (Ty × Rhs))
    → k ≡ length done → done ++ more ≡ all → AreWires (declared_types d.ports.inputs d.registers done) more
    → Path (record d { stage = stage.Net; wires = all }) ls m
    → Path (record d { stage = stage.Net; wires = done }) (numbered (wire_lines d.ports.inputs) k more ++ ls) m
wires_path d ls m k done [] all at whole are path =
    let R : List (Ty × Rhs) → Type 0 = λ ws. Path (record d { stage = stage.Net; wires = ws }) ls m in
    subst R (sym whole ∙ append-nil done) path
wires_path d ls m k done ((t, right) ∷ more) all at whole are path =
    let declared : Draft = record d { stage = stage.Assign t; wires = done } in
    let after : Draft = record d { stage = stage.Net; wires = done ++ (t, right) ∷ [] } in
    let T : List Ty → Type 0 = λ ts. AreWires (record { inputs = port_types d.ports.inputs; registers = register_types d.registers; wires = ts }) more in (
      declared,
      (
        inr (inl (record { what = t; right = right_type (declared_types d.ports.inputs d.registers done) right t are.0; is = ap (λ j. wire_line j t) at; leads = refl })),
        (
          after,
          (
            record { what = right; right = are.0; is = ap (λ j. assign_line d.ports.inputs j right) at; leads = refl },
            wires_path d ls m (k + 1) (done ++ (t, right) ∷ []) more all (one_more done (t, right) k at) (append_assoc done ((t, right) ∷ []) more ∙ whole)
                (subst T (sym (map-append (λ (w : Ty × Rhs). w.0) done ((t, right) ∷ []))) are.1) path,
          ),
        ),
      ),
    )

abbrev pub zero_of : Value → Value
zero_of v = default_of (type_of v)

-- the registers, from some on
pub registers_path : (d : Draft) (ls : List (List ℕ)) (m : VModule) (k : ℕ) (done more all : List Value)
    → d.wires ≡ [] → k ≡ length done → done ++ map zero_of more ≡ all → AllByRecursion IsValue more
    → Path (record d { stage = stage.Net; registers = all }) ls m
    → Path (record d { stage = stage.Net; registers = done }) (numbered register_lines k more ++ ls) m
registers_path d ls m k done [] all none at whole are path =
    let R : List Value → Type 0 = λ vs. Path (record d { stage = stage.Net; registers = vs }) ls m in
    subst R (sym whole ∙ append-nil done) path
registers_path d ls m k done (v ∷ more) all none at whole are path =
    let after : Draft = record d { stage = stage.Net; registers = done ++ zero_of v ∷ [] } in (
      after,
      (
        inl (record { what = type_of v; right = record { typed = are.0.typed; first = none }; is = ap (λ j. register_line j (type_of v)) at; leads = refl }),
        registers_path d ls m (k + 1) (done ++ zero_of v ∷ []) more all none (one_more done (zero_of v) k at)
            (append_assoc done (zero_of v ∷ []) (map zero_of more) ∙ whole) are.1 path,
      ),
    )

-- a name before others that differ from it is none of those before it
pub fresh_here : (before : List (List ℕ)) (name : List ℕ) (after : List (List ℕ)) → are_distinct (before ++ name ∷ after) ≡ true → is_among before name ≡ false
fresh_here [] name after apart = refl
fresh_here (x ∷ xs) name after apart =
    let parts = and_parts (not (is_among (xs ++ name ∷ after) x)) (are_distinct (xs ++ name ∷ after)) apart in
    or_from (bytes_eq x name) (is_among xs name)
    (other_way name x (not_there xs x (not-true (is_among (xs ++ name ∷ after) x) parts.0)))
    (fresh_here xs name after parts.1)
  where
    not_there : (ys : List (List ℕ)) (x : List ℕ) → is_among (ys ++ name ∷ after) x ≡ false → bytes_eq name x ≡ false
    not_there [] x none = (or_parts (bytes_eq name x) (is_among after x) none).0
    not_there (y ∷ ys) x none = not_there ys x (or_parts (bytes_eq y x) (is_among (ys ++ name ∷ after) x) none).1

-- an output that is none of the ports before it
new_name : (d : Draft) (inputs done : List Port) (port : Port) (more all : List Port) → done ++ port ∷ more ≡ all → are_distinct (port_names (inputs ++ all)) ≡ true
    → is_among (port_names (inputs ++ done)) port.name ≡ false
new_name d inputs done port more all whole apart =
    fresh_here (port_names (inputs ++ done)) port.name (port_names more) (ap are_distinct (sym names) ∙ apart)
  where
    names : port_names (inputs ++ all) ≡ port_names (inputs ++ done) ++ port.name ∷ port_names more
    names =
        ap (λ ps. port_names (inputs ++ ps)) (sym whole)
        ∙ ap port_names (sym (append_assoc inputs done (port ∷ more)))
        ∙ map-append (λ (p : Port). p.name) (inputs ++ done) (port ∷ more)

-- an input that is none of those before it, where there are no outputs
new_input : (d : Draft) (done : List Port) (port : Port) (more all outputs : List Port) → done ++ port ∷ more ≡ all → are_distinct (port_names (all ++ outputs)) ≡ true
    → is_among (port_names (done ++ [])) port.name ≡ false
new_input d done port more all outputs whole apart =
    ap (λ ps. is_among (port_names ps) port.name) (append-nil done)
    ∙ fresh_here (port_names done) port.name (port_names (more ++ outputs)) (ap are_distinct (sym names) ∙ apart)
  where
    names : port_names (all ++ outputs) ≡ port_names done ++ port.name ∷ port_names (more ++ outputs)
    names =
        ap (λ ps. port_names (ps ++ outputs)) (sym whole)
        ∙ ap port_names (append_assoc done (port ∷ more) outputs)
        ∙ map-append (λ (p : Port). p.name) done (port ∷ (more ++ outputs))

-- what a port has to be, apart from the names of the others
pub record IsPort (port : Port) : Type 0 where
  pub typed : IsType port.ty
  pub named : IsNamed port.name

-- the outputs, from some on, of which there is one at least
pub outputs_path : (d : Draft) (ls : List (List ℕ)) (m : VModule) (inputs done : List Port) (port : Port) (more all : List Port)
    → done ++ port ∷ more ≡ all → are_distinct (port_names (inputs ++ all)) ≡ true → AllByRecursion IsPort (port ∷ more)
    → Path (record d { stage = stage.PortsEnd; ports = record { inputs = inputs; outputs = all } }) ls m
    → Path (record d { stage = stage.Port; ports = record { inputs = inputs; outputs = done } }) (listed (output_text port) (map output_text more) ++ ls) m
outputs_path d ls m inputs done port [] all whole apart are path =
    let after : Draft = record d { stage = stage.PortsEnd; ports = record { inputs = inputs; outputs = done ++ port ∷ [] } } in
    let R : List Port → Type 0 = λ ps. Path (record d { stage = stage.PortsEnd; ports = record { inputs = inputs; outputs = ps } }) ls m in (
      after,
      (
        inr (record { what = (port, false); right = record { typed = are.0.typed; named = are.0.named; new = new_name d inputs done port [] all whole apart }; is = refl; leads = refl }),
        subst R (sym whole) path,
      ),
    )
outputs_path d ls m inputs done port (next ∷ more) all whole apart are path =
    let after : Draft = record d { stage = stage.Port; ports = record { inputs = inputs; outputs = done ++ port ∷ [] } } in (
      after,
      (
        inr (record { what = (port, true); right = record { typed = are.0.typed; named = are.0.named; new = new_name d inputs done port (next ∷ more) all whole apart }; is = refl; leads = refl }),
        outputs_path d ls m inputs (done ++ port ∷ []) next more all (append_assoc done (port ∷ []) (next ∷ more) ∙ whole) apart are.1 path,
      ),
    )

-- the inputs, from some on, and then the outputs
pub inputs_path : (d : Draft) (ls : List (List ℕ)) (m : VModule) (done : List Port) (port : Port) (more all outputs : List Port)
    → done ++ port ∷ more ≡ all → are_distinct (port_names (all ++ outputs)) ≡ true → AllByRecursion IsPort (port ∷ more) → AllByRecursion IsPort outputs
    → Path (record d { stage = stage.PortsEnd; ports = record { inputs = all; outputs = outputs } }) ls m
    → Path (record d { stage = stage.Port; ports = record { inputs = done; outputs = [] } }) (listed (input_text port) (map input_text more ++ map output_text outputs) ++ ls) m
inputs_path d ls m done port [] all [] whole apart are outs path =
    let after : Draft = record d { stage = stage.PortsEnd; ports = record { inputs = done ++ port ∷ []; outputs = [] } } in
    let R : List Port → Type 0 = λ ps. Path (record d { stage = stage.PortsEnd; ports = record { inputs = ps; outputs = [] } }) ls m in (
      after,
      (
        inl (record { what = (port, false); right = record { new = record { typed = are.0.typed; named = are.0.named; new = new_input d done port [] all [] whole apart }; first = refl }; is = refl; leads = refl }),
        subst R (sym whole) path,
      ),
    )
inputs_path d ls m done port [] all (out ∷ outputs) whole apart are outs path =
    let after : Draft = record d { stage = stage.Port; ports = record { inputs = done ++ port ∷ []; outputs = [] } } in
    let R : List Port → Type 0 = λ ps. Path (record d { stage = stage.PortsEnd; ports = record { inputs = ps; outputs = out ∷ outputs } }) ls m in
    let A : List Port → Type 0 = λ ps. are_distinct (port_names (ps ++ out ∷ outputs)) ≡ true in (
      after,
      (
        inl (record { what = (port, true); right = record { new = record { typed = are.0.typed; named = are.0.named; new = new_input d done port [] all (out ∷ outputs) whole apart }; first = refl }; is = refl; leads = refl }),
        outputs_path d ls m (done ++ port ∷ []) [] out outputs (out ∷ outputs) refl (subst A (sym whole) apart) outs (subst R (sym whole) path),
      ),
    )
inputs_path d ls m done port (next ∷ more) all outputs whole apart are outs path =
    let after : Draft = record d { stage = stage.Port; ports = record { inputs = done ++ port ∷ []; outputs = [] } } in (
      after,
      (
        inl (record { what = (port, true); right = record { new = record { typed = are.0.typed; named = are.0.named; new = new_input d done port (next ∷ more) all outputs whole apart }; first = refl }; is = refl; leads = refl }),
        inputs_path d ls m (done ++ port ∷ []) next more all outputs (append_assoc done (port ∷ []) (next ∷ more) ∙ whole) apart are.1 outs path,
      ),
    )
