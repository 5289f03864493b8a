-- Writes that are appended, as views have them.
use Rattle.std.proofs.Common.{◌≡◌, Bool, true, List, [], ◌∷◌, ◌++◌, refl, sym, ap, append_assoc, ◌∙◌}
use Rattle.qz_values.specs.declared.Know.{Know}
use Rattle.qz_nets.specs.declared.net.NetId.{NetId}
use Rattle.qz_syntax.specs.declared.expressions.Var.{Var}
use Rattle.qz_syntax.specs.declared.expressions.Var.TheVariants as var
use Rattle.qz_syntax.specs.declared.places.Mark.{Mark}
use Rattle.qz_meaning.specs.Instances.{Instance}
use Rattle.qz_meaning.specs.Scenes.{Context, instance_here}
use Rattle.qz_meaning.specs.Accounts.{Write}
use Rattle.qz_meaning.specs.Landings.{Deed, Wrote, Starts, Resumes}
use Rattle.qz_control.specs.Leaves.{known_bit}
use Rattle.qz_control.specs.Circuits.{View, known}
use Rattle.qz_control.specs.Shown.{hide, writes_in}
use Rattle.qz_surface.specs.declared.writes.NetWrite.{NetWrite}
use Rattle.qz_surface.specs.Written.{read_write, read_writes, hidden}

read-append : (v : View) (xs ys : List NetWrite) → read_writes v (xs ++ ys) ≡ read_writes v xs ++ read_writes v ys
read-append v [] ys = refl
read-append v (x ∷ xs) ys = ap (λ more. read_write v x ∷ more) (read-append v xs ys)

hidden-append : (live : Know) (xs ys : List Deed) → hidden live (xs ++ ys) ≡ hidden live xs ++ hidden live ys
hidden-append live [] ys = refl
hidden-append live (Wrote w ∷ xs) ys = ap (λ more. hide live w ∷ more) (hidden-append live xs ys)
hidden-append live (Starts call g m ∷ xs) ys = hidden-append live xs ys
hidden-append live (Resumes call g ∷ xs) ys = hidden-append live xs ys

-- what is appended twice
pub joined : (live : Know) (before : List Write) (xs ys : List Deed) → (before ++ hidden live xs) ++ hidden live ys ≡ before ++ hidden live (xs ++ ys)
joined live before xs ys = append_assoc before (hidden live xs) (hidden live ys) ∙ ap (λ more. before ++ more) (sym (hidden-append live xs ys))

-- where the walk comes to all deeds, nothing is hidden
pub all_shown : (deeds : List Deed) → hidden (known_bit true) deeds ≡ writes_in deeds
all_shown [] = refl
all_shown (Wrote w ∷ deeds) = ap (λ more. w ∷ more) (all_shown deeds)
all_shown (Starts call g m ∷ deeds) = all_shown deeds
all_shown (Resumes call g ∷ deeds) = all_shown deeds

instance_again : (ctx : Context) (variable : Var) → ◌≡◌ {A = Instance} (record { variable = variable; mark = (instance_here ctx variable).mark }) (instance_here ctx variable)
instance_again ctx (var.Formal n) = refl
instance_again ctx (var.Local n) = refl
instance_again ctx (var.Bound n) = refl

-- what is read after one write
pub written : (v : View) (old new : List NetWrite) (ctx : Context) (delayed : Bool) (target : Var) (m : Mark) (guard value : NetId) (g k : Know)
    → new ≡ old ++ record { delayed = delayed; target = target; mark = m; guard = guard; value = value } ∷ []
    → m ≡ (instance_here ctx target).mark → known v guard ≡ g → known v value ≡ k
    → read_writes v new ≡ read_writes v old ++ record { target = instance_here ctx target; delayed = delayed; guard = g; value = k } ∷ []
written v old new ctx delayed target m guard value g k is m_is g_is k_is =
    ap (read_writes v) is ∙ read-append v old (record { delayed = delayed; target = target; mark = m; guard = guard; value = value } ∷ [])
    ∙ ap (λ (w : Write). read_writes v old ++ w ∷ [])
    (ap (λ n. record { target = record { variable = target; mark = n }; delayed = delayed; guard = known v guard; value = known v value }) m_is
    ∙ ap (λ i. record { target = i; delayed = delayed; guard = known v guard; value = known v value }) (instance_again ctx target)
    ∙ ap (λ x. record { target = instance_here ctx target; delayed = delayed; guard = x; value = known v value }) g_is
    ∙ ap (λ x. record { target = instance_here ctx target; delayed = delayed; guard = g; value = x }) k_is)
