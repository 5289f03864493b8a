-- Calls that wait for one another.
use Rattle.std.proofs.Common.{ℕ, zero, suc, ◌+◌, ◌-◌, ◌*◌, ◌<◌, ◌≤◌, ◌≡◌, cond, List, [], ◌∷◌, ◌++◌, Some, None, Option, IfSome, is_some, refl, sym, ap, ◌∙◌, subst, arith}
use Rattle.qz_dd.specs.declared.node.DdId.{DdId}
use Rattle.qz_dd.specs.declared.call.Call.{Call}
use Rattle.qz_dd.specs.declared.table.Table.{Table}
use Rattle.qz_dd.specs.declared.work.Frame.{Frame}
use Rattle.qz_dd.specs.Calls.{size}
use Rattle.qz_dd.specs.Tables.{Extends}
use Rattle.qz_dd.specs.Answers.{Awaits, Chained, IsAnswer, IsCofactorCall, IsLow, IsHigh, Has, steps, frame_steps, all_steps}
use Rattle.qz_dd.proofs.Calling.{has_stays, top_stays, low_stays, cofactor_stays, low_from, high_from}

pub chained_push : (table : Table) (asked : Call) (frames : List Frame) (call : Call) → Chained table asked frames call →
    (frame : Frame) → frame.call ≡ call → (next : Call) → Awaits table frame next → Chained table asked (frames ++ frame ∷ []) next
chained_push table asked [] call chained frame e next awaits = (e ∙ sym chained, (next, awaits, refl))
chained_push table asked (f ∷ fs) call chained frame e next awaits =
    (chained.0, (chained.1.0, chained.1.1, chained_push table chained.1.0 fs call chained.1.2 frame e next awaits))

pub chained_pop : (table : Table) (asked : Call) (frames : List Frame) (frame : Frame) (next : Call) → Chained table asked (frames ++ frame ∷ []) next →
    Chained table asked frames frame.call × Awaits table frame next
chained_pop table asked [] frame next chained = (sym chained.0, subst (Awaits table frame) chained.1.2 chained.1.1)
chained_pop table asked (f ∷ fs) frame next chained =
    let rest = chained_pop table chained.1.0 fs frame next chained.1.2 in
    ((chained.0, (chained.1.0, chained.1.1, rest.0)), rest.1)

module _ (old new : Table) (grows : Extends old new) where
  low_option_stays : (var : ℕ) (call : Call) (low : Option DdId) → Has old call → IfSome low (IsLow old var call) → IfSome low (IsLow new var call)
  low_option_stays var call None has is = is
  low_option_stays var call (Some d) has is = low_stays old new grows var call d has is

  pub awaits_stays : (frame : Frame) (next : Call) → Awaits old frame next → Awaits new frame next
  awaits_stays frame next awaits = record {
    has = has_stays old new grows frame.call awaits.has;
    top = top_stays old new grows frame.var frame.call awaits.has awaits.top;
    low = low_option_stays frame.var frame.call frame.low awaits.has awaits.low;
    cofactor = cofactor_stays old new grows frame.var (is_some frame.low) frame.call next awaits.has awaits.cofactor;
  }

  pub chained_stays : (asked : Call) (frames : List Frame) (call : Call) → Chained old asked frames call → Chained new asked frames call
  chained_stays asked [] call chained = chained
  chained_stays asked (f ∷ fs) call chained =
      (chained.0, (chained.1.0, awaits_stays f chained.1.0 chained.1.1, chained_stays chained.1.0 fs call chained.1.2))

pub all_steps_push : (frames : List Frame) (frame : Frame) → all_steps (frames ++ frame ∷ []) ≡ all_steps frames + frame_steps frame
all_steps_push [] frame = omega arith
all_steps_push (f ∷ fs) frame = omega (arith, all_steps_push fs frame)

pub steps_rise : (m n : ℕ) → m ≤ n → steps m ≤ steps n
steps_rise zero zero h = omega arith
steps_rise zero (suc n) h = omega (arith, steps_rise zero n (omega arith))
steps_rise (suc m) zero h = absurd (omega arith)
steps_rise (suc m) (suc n) h = omega (arith, steps_rise m n (omega arith))

-- one step of a call that isn't the least
pub steps_less : (s : ℕ) → 0 < s → 2 * steps (s - 1) + 3 ≡ steps s
steps_less zero h = absurd (omega arith)
steps_less (suc s) h = let e : suc s - 1 ≡ s = omega arith in ap (λ k. 2 * steps k + 3) e

cond_at : (answer : Option DdId) (n : ℕ) → cond (is_some answer) 0 n ≤ n
cond_at None n = omega arith
cond_at (Some d) n = omega arith

-- a step that puts a frame on the frames and goes on to a cofactor
pub entered_less : (frames after : List Frame) (frame : Frame) (call cofactor : Call) (answer : Option DdId) → after ≡ frames ++ frame ∷ [] →
    frame_steps frame ≡ steps (size call - 1) + 2 → size cofactor < size call →
    all_steps after + cond (is_some answer) 0 (steps (size cofactor)) < all_steps frames + steps (size call)
entered_less frames after frame call cofactor answer e cost less =
    let pushed : all_steps after ≡ all_steps frames + frame_steps frame = ap all_steps e ∙ all_steps_push frames frame in
    let rises = steps_rise (size cofactor) (size call - 1) (omega (arith, less)) in
    let one = steps_less (size call) (omega (arith, less)) in
    let most = cond_at answer (steps (size cofactor)) in
    omega (arith, pushed, cost, rises, one, most)

pub turned_less : (frames after : List Frame) (frame : Frame) (call cofactor : Call) (answer : Option DdId) → after ≡ frames ++ frame ∷ [] →
    frame_steps frame ≡ 1 → size cofactor < size call →
    all_steps after + cond (is_some answer) 0 (steps (size cofactor)) < all_steps frames + steps (size call - 1) + 2
turned_less frames after frame call cofactor answer e cost less =
    let pushed : all_steps after ≡ all_steps frames + frame_steps frame = ap all_steps e ∙ all_steps_push frames frame in
    let rises = steps_rise (size cofactor) (size call - 1) (omega (arith, less)) in
    let most = cond_at answer (steps (size cofactor)) in
    omega (arith, pushed, cost, rises, most)

pub low_of_frame : (table : Table) (frame : Frame) (call : Call) (d : DdId) → Awaits table frame call → frame.low ≡ None → IsAnswer table call d → IsLow table frame.var frame.call d
low_of_frame table frame call d awaits e right =
    low_from table frame.var frame.call call d (subst (λ (l : Option DdId). IsCofactorCall table frame.var (is_some l) frame.call call) e awaits.cofactor) right

pub high_of_frame : (table : Table) (frame : Frame) (call : Call) (low d : DdId) → Awaits table frame call → frame.low ≡ Some low → IsAnswer table call d → IsHigh table frame.var frame.call d
high_of_frame table frame call low d awaits e right =
    high_from table frame.var frame.call call d (subst (λ (l : Option DdId). IsCofactorCall table frame.var (is_some l) frame.call call) e awaits.cofactor) right
