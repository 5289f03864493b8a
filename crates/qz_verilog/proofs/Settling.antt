-- A valid module settles in one way: each wire reads only what is settled before it.
use Rattle.std.proofs.Common.{◌≡◌, ℕ, zero, suc, ◌+◌, ◌<◌, List, [], ◌∷◌, ◌++◌, length, get_or, take, set, slice_get, Some, refl, sym, ap, ap₂, subst, ◌∙◌, arith, length-append, zero-add, append-nil}
use Rattle.std.proofs.lemmas.List.{get_or_append_left, append_assoc, take_more, take_more_set}
use Rattle.std.proofs.Math.Seq.{get_or-append_seam}
use Rattle.std.proofs.Math.Nat.{suc-ne-zero}
use Rattle.std.proofs.lemmas.Option.{slice_get_within}
use Rattle.qz_values.specs.declared.Ty.{Ty}
use Rattle.qz_values.specs.declared.Value.{Value}
use Rattle.qz_values.specs.Values.{no}
use Rattle.qz_verilog.specs.declared.nets.Ref.TheVariants as net
use Rattle.qz_verilog.specs.declared.nets.Rhs.{Rhs}
use Rattle.qz_verilog.specs.Types.{NetTypes}
use Rattle.qz_verilog.specs.Validity.{with_wire, AreWires}
use Rattle.qz_verilog.specs.Meaning.{Nets, right_side, Settles}
use Rattle.qz_verilog.specs.Runs.{nets_of}
use Rattle.qz_verilog.proofs.RightSides.{Agree, same_right}

module _ (registers row : List Value) where
  abbrev pub nets : List Value → Nets
  nets wires = nets_of registers row wires

  -- values of wires, each that of its right side where those before it are settled
  abbrev pub SettlesFrom : List Value → List (Ty × Rhs) → List Value → Type 0
  SettlesFrom done [] [] = Unit {0}
  SettlesFrom done [] (v ∷ vs) = ⊥
  SettlesFrom done (wire ∷ wires) [] = ⊥
  SettlesFrom done (wire ∷ wires) (v ∷ vs) = (v ≡ right_side (nets done) wire.1) × SettlesFrom (done ++ v ∷ []) wires vs

  -- those values, computed
  abbrev settled : List Value → List (Ty × Rhs) → List Value
  settled done [] = []
  settled done (wire ∷ wires) = right_side (nets done) wire.1 ∷ settled (done ++ right_side (nets done) wire.1 ∷ []) wires

  pub settled_so : (done : List Value) (wires : List (Ty × Rhs)) → SettlesFrom done wires (settled done wires)
  settled_so done [] = tt
  settled_so done (wire ∷ wires) = (refl, settled_so (done ++ right_side (nets done) wire.1 ∷ []) wires)

  pub settled_only : (done : List Value) (wires : List (Ty × Rhs)) (vs : List Value) → SettlesFrom done wires vs → vs ≡ settled done wires
  settled_only done [] [] h = refl
  settled_only done [] (v ∷ vs) h = absurd h
  settled_only done (wire ∷ wires) [] h = absurd h
  settled_only done (wire ∷ wires) (v ∷ vs) h =
      ap₂ (λ x xs. x ∷ xs) h.0 (settled_only (done ++ v ∷ []) wires vs h.1
      ∙ ap (λ x. settled (done ++ x ∷ []) wires) h.0)

  -- more wires change nothing of what stands before them
  pub agree_before : (types : NetTypes) (done more : List Value) → length types.wires ≡ length done → Agree types (nets (done ++ more)) (nets done)
  agree_before types done more count (net.Input number) t h = refl
  agree_before types done more count (net.Reg number) t h = refl
  agree_before types done more count (net.Wire number) t h =
      let below = slice_get_within types.wires number t h in
      get_or_append_left done more no number (omega arith)

  one_longer : (types : NetTypes) (done : List Value) (t : Ty) (v : Value) → length types.wires ≡ length done →
      length (with_wire types t).wires ≡ length (done ++ v ∷ [])
  one_longer types done t v count = length-append types.wires (t ∷ []) ∙ ap (λ n. n + 1) count ∙ sym (length-append done (v ∷ []))

  -- one wire more
  pub SettlesFrom-more : (done : List Value) (wires : List (Ty × Rhs)) (vs : List Value) (wire : Ty × Rhs) (v : Value) →
      SettlesFrom done wires vs → v ≡ right_side (nets (done ++ vs)) wire.1 → SettlesFrom done (wires ++ wire ∷ []) (vs ++ v ∷ [])
  SettlesFrom-more done [] [] wire v h is = (is ∙ ap (λ all. right_side (nets all) wire.1) (append-nil done), tt)
  SettlesFrom-more done [] (x ∷ vs) wire v h is = absurd h
  SettlesFrom-more done (w ∷ wires) [] wire v h is = absurd h
  SettlesFrom-more done (w ∷ wires) (x ∷ vs) wire v h is = (
    h.0,
    SettlesFrom-more (done ++ x ∷ []) wires vs wire v h.1 (is ∙ ap (λ all. right_side (nets all) wire.1) (sym (append_assoc done (x ∷ []) vs))),
  )

  -- the next wire's value is written behind those that are settled
  pub SettlesFrom-step : (wires : List (Ty × Rhs)) (vs : List Value) (k : ℕ) (d : Ty × Rhs) (v : Value) → k < length wires → k < length vs →
      SettlesFrom [] (take k wires) (take k vs) → v ≡ right_side (nets (take k vs)) (get_or wires k d).1 →
      SettlesFrom [] (take (k + 1) wires) (take (k + 1) (set vs k v))
  SettlesFrom-step wires vs k d v below room h is =
      rw (take_more wires k d below, take_more_set vs k v room) (SettlesFrom-more [] (take k wires) (take k vs) (get_or wires k d) v h is)

  -- the assignments of wires after those that are settled
  pub record Assigned (done : List Value) (wires : List (Ty × Rhs)) (vs : List Value) : Type 0 where
    pub each : length vs ≡ length wires
    pub assigned : (k : ℕ) (wire : Ty × Rhs) → slice_get wires k ≡ Some wire →
        get_or (done ++ vs) (length done + k) no ≡ right_side (nets (done ++ vs)) wire.1

  pub assigned_so : (types : NetTypes) (done : List Value) (wires : List (Ty × Rhs)) (vs : List Value) → length types.wires ≡ length done →
      AreWires types wires → SettlesFrom done wires vs → Assigned done wires vs
  assigned_so types done [] [] count valid h = record { each = refl; assigned = λ k wire is. absurd (cc) }
  assigned_so types done [] (v ∷ vs) count valid h = absurd h
  assigned_so types done (wire ∷ wires) [] count valid h = absurd h
  assigned_so types done (wire ∷ wires) (v ∷ vs) count valid h =
      let rest = assigned_so (with_wire types wire.0) (done ++ v ∷ []) wires vs (one_longer types done wire.0 v count) valid.1 h.1 in
      record { each = ap suc rest.each; assigned = at rest } where
        at : Assigned (done ++ v ∷ []) wires vs → (k : ℕ) (other : Ty × Rhs) → slice_get (wire ∷ wires) k ≡ Some other →
            get_or (done ++ v ∷ vs) (length done + k) no ≡ right_side (nets (done ++ v ∷ vs)) other.1
        at rest zero other is =
            let place : length done + 0 ≡ length done = omega arith in
            let same : wire ≡ other = cc in
            rw (place, ← same) (get_or-append_seam done v vs no ∙ h.0
            ∙ sym (same_right types (nets (done ++ v ∷ vs)) (nets done) (agree_before types done (v ∷ vs) count) wire.1 wire.0 valid.0))
        at rest (suc k) other is =
            let longer : length (done ++ v ∷ []) ≡ length done + 1 = length-append done (v ∷ []) in
            let place : length (done ++ v ∷ []) + k ≡ length done + suc k = omega arith in
            let Is : List Value → ℕ → Type 0 = λ all n. get_or all n no ≡ right_side (nets all) other.1 in
            subst (λ all. Is all (length done + suc k)) (append_assoc done (v ∷ []) vs)
            (subst (λ n. Is (done ++ v ∷ [] ++ vs) n) place (rest.assigned k other is))

  pub settles_from : (types : NetTypes) (done : List Value) (wires : List (Ty × Rhs)) (vs : List Value) → length types.wires ≡ length done →
      AreWires types wires → Assigned done wires vs → SettlesFrom done wires vs
  settles_from types done [] [] count valid h = tt
  settles_from types done [] (v ∷ vs) count valid h = absurd (suc-ne-zero _ h.each)
  settles_from types done (wire ∷ wires) [] count valid h = absurd (suc-ne-zero _ (sym h.each))
  settles_from types done (wire ∷ wires) (v ∷ vs) count valid h =
      let place : length done + 0 ≡ length done = omega arith in
      let here : get_or (done ++ v ∷ vs) (length done) no ≡ right_side (nets (done ++ v ∷ vs)) wire.1 =
      subst (λ n. get_or (done ++ v ∷ vs) n no ≡ right_side (nets (done ++ v ∷ vs)) wire.1) place (h.assigned 0 wire refl) in (
        sym (get_or-append_seam done v vs no) ∙ here
            ∙ same_right types (nets (done ++ v ∷ vs)) (nets done) (agree_before types done (v ∷ vs) count) wire.1 wire.0 valid.0,
        settles_from (with_wire types wire.0) (done ++ v ∷ []) wires vs (one_longer types done wire.0 v count) valid.1
            (record { each = omega arith; assigned = after }),
      ) where
        after : (k : ℕ) (other : Ty × Rhs) → slice_get wires k ≡ Some other →
            get_or (done ++ v ∷ [] ++ vs) (length (done ++ v ∷ []) + k) no ≡ right_side (nets (done ++ v ∷ [] ++ vs)) other.1
        after k other is =
            let longer : length (done ++ v ∷ []) ≡ length done + 1 = length-append done (v ∷ []) in
            let place : length done + suc k ≡ length (done ++ v ∷ []) + k = omega arith in
            let Is : List Value → ℕ → Type 0 = λ all n. get_or all n no ≡ right_side (nets all) other.1 in
            subst (λ all. Is all (length (done ++ v ∷ []) + k)) (sym (append_assoc done (v ∷ []) vs))
            (subst (λ n. Is (done ++ v ∷ vs) n) place (h.assigned (suc k) other is))

  -- the whole list of wires, from the first one on
  pub settles_whole : (types : NetTypes) (wires : List (Ty × Rhs)) (vs : List Value) → types.wires ≡ [] → AreWires types wires →
      SettlesFrom [] wires vs → Settles wires (nets vs)
  settles_whole types wires vs none valid h =
      let is = assigned_so types [] wires vs (ap length none) valid h in
      record { each = is.each; assigned = λ k wire there. subst (λ n. get_or vs n no ≡ right_side (nets vs) wire.1) (zero-add k) (is.assigned k wire there) }

  pub whole_settles : (types : NetTypes) (wires : List (Ty × Rhs)) (vs : List Value) → types.wires ≡ [] → AreWires types wires →
      Settles wires (nets vs) → SettlesFrom [] wires vs
  whole_settles types wires vs none valid h =
      settles_from types [] wires vs (ap length none) valid (record {
        each = h.each;
        assigned = λ k wire there. subst (λ n. get_or vs n no ≡ right_side (nets vs) wire.1) (sym (zero-add k)) (h.assigned k wire there);
      })

  -- settled values of a valid module's wires
  pub settled_wires : List (Ty × Rhs) → List Value
  settled_wires wires = settled [] wires

  pub settled_wires_so : (types : NetTypes) (wires : List (Ty × Rhs)) → types.wires ≡ [] → AreWires types wires → Settles wires (nets (settled_wires wires))
  unfolding settled_wires
  settled_wires_so types wires none valid = settles_whole types wires (settled [] wires) none valid (settled_so [] wires)

  pub settled_wires_only : (types : NetTypes) (wires : List (Ty × Rhs)) (vs : List Value) → types.wires ≡ [] → AreWires types wires →
      Settles wires (nets vs) → vs ≡ settled_wires wires
  unfolding settled_wires
  settled_wires_only types wires vs none valid h = settled_only [] wires vs (whole_settles types wires vs none valid h)
