-- One write more, which happens only where it is live.
use Rattle.std.proofs.Common.{◌≡◌, ℕ, ◌+◌, ◌<◌, List, [], ◌∷◌, ◌++◌, map, length, drop, get_or, sym, ap, subst, ◌∙◌, append_assoc, add-one, drop-cons, arith}
use Rattle.std.proofs.lemmas.List.{map-append}
use Rattle.qz_values.specs.declared.Know.{Know}
use Rattle.qz_values.specs.declared.Know.TheVariants.{Known}
use Rattle.qz_values.specs.Values.{no}
use Rattle.qz_values.specs.Knowledge.{choose_of}
use Rattle.qz_nets.specs.declared.net.NetId.{NetId}
use Rattle.qz_syntax.specs.declared.modules.Module.{Module}
use Rattle.qz_control.specs.declared.circuit.Circuit.{Circuit}
use Rattle.qz_control.specs.Circuits.{View, known, Grows, IsBool}
use Rattle.qz_control.specs.Shown.{hide}
use Rattle.qz_surface.specs.declared.writes.NetWrite.{NetWrite}
use Rattle.qz_surface.specs.Written.{read_write, read_writes, IsWrite, AreWrites}
use Rattle.qz_surface.proofs.Typing.{writes_grow}

-- the write with another guard
abbrev pub under : NetId → NetWrite → NetWrite
under guard w = record { delayed = w.delayed; target = w.target; mark = w.mark; guard = guard; value = w.value }

module _ (xs : List NetWrite) (k : ℕ) (d : NetWrite) (within : k < length xs) where
  abbrev here : NetWrite
  here = get_or xs k d

  from_here : drop k xs ≡ here ∷ drop (k + 1) xs
  from_here = rw add-one (drop-cons xs k d within)

  -- what is read of the writes so far and of those that are left
  pub hidden_more : (v : View) (old new : List NetWrite) (guard : NetId) (live never : Know) → new ≡ old ++ under guard here ∷ []
      → known v guard ≡ choose_of live (known v here.guard) never → never ≡ Known no
      → read_writes v new ++ map (hide live) (read_writes v (drop (k + 1) xs)) ≡ read_writes v old ++ map (hide live) (read_writes v (drop k xs))
  hidden_more v old new guard live never is guard_is never_is =
      let more = map (hide live) (read_writes v (drop (k + 1) xs)) in
      ap (λ ws. read_writes v ws ++ more) is
      ∙ ap (λ ws. ws ++ more) (map-append (read_write v) old (under guard here ∷ []))
      ∙ append_assoc (read_writes v old) (read_write v (under guard here) ∷ []) more
      ∙ ap (λ g. read_writes v old ++ record { target = (read_write v here).target; delayed = here.delayed; guard = g; value = known v here.value } ∷ more) (guard_is ∙ ap (λ n. choose_of live (known v here.guard) n) never_is)
      ∙ ap (λ left. read_writes v old ++ map (hide live) (read_writes v left)) (sym from_here)

  module _ (m : Module) (before now : Circuit) (grows : Grows before now) where
    left_here : AreWrites m before (drop k xs) → AreWrites m before (here ∷ drop (k + 1) xs)
    left_here left = subst (λ (ws : List NetWrite). AreWrites m before ws) from_here left

    left_further : AreWrites m before (drop k xs) → AreWrites m now (drop (k + 1) xs)
    left_further left = writes_grow m before now (drop (k + 1) xs) grows (left_here left).1

    append_one : (old : List NetWrite) (w : NetWrite) → AreWrites m now old → IsWrite m now w → AreWrites m now (old ++ w ∷ [])
    append_one [] w typed is = (is, tt)
    append_one (x ∷ old) w typed is = (typed.0, append_one old w typed.1 is)

    pub typed_more : (old new : List NetWrite) (guard : NetId) → new ≡ old ++ under guard here ∷ [] → IsBool now guard
        → AreWrites m before (drop k xs) → AreWrites m before old → AreWrites m now new
    typed_more old new guard is bool left typed =
        let one = (left_here left).0 in
        subst (λ (ws : List NetWrite). AreWrites m now ws) (sym is)
        (append_one old (under guard here) (writes_grow m before now old grows typed)
        (record { guard = bool; ty = one.ty; declared = one.declared; value = grows.types here.value one.ty one.value }))

-- the writes that are left after this one
pub left_more : (xs : List NetWrite) (k : ℕ) → k < length xs → (m : Module) (before now : Circuit) → Grows before now
    → AreWrites m before (drop k xs) → AreWrites m now (drop (k + 1) xs)
left_more [] k within = absurd (omega (arith, within))
left_more (x ∷ xs) k within = left_further (x ∷ xs) k x within
