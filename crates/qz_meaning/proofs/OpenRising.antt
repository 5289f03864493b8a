-- Open walks are monotone, also in what calls answer; and what is written to depends on the place alone.
use Rattle.std.proofs.Common.{◌≡◌, ℕ, Bool, List, [], ◌∷◌, map, Option, refl, sym, ap₂, ◌∙◌}
use Rattle.std.specs.List.{AllZip}
use Rattle.qz_values.specs.declared.Know.TheVariants.{Unknown}
use Rattle.qz_syntax.specs.declared.statements.Arg.{Arg}
use Rattle.qz_syntax.specs.declared.statements.Arg.TheVariants as arg
use Rattle.qz_syntax.specs.declared.statements.Stmt.{Stmt}
use Rattle.qz_syntax.specs.declared.places.Residual.{Residual}
use Rattle.qz_meaning.specs.Instances.{Instance}
use Rattle.qz_meaning.specs.Scenes.{Scene, Passing, Context}
use Rattle.qz_meaning.specs.Accounts.{Write}
use Rattle.qz_meaning.specs.Calls.{Answers, given_here, open_call}
use Rattle.qz_meaning.specs.Residing.{residing, no_calls, walk}
use Rattle.qz_meaning.specs.Landings.{Deed, Spot, landing, landing_calls, open_walk}
use Rattle.qz_meaning.specs.Rising.{SceneBelow, ContextBelow, WriteBelow, GivenBelow, DeedBelow, AnswersBelow, Rises}
use Rattle.qz_meaning.specs.MeetingLaws.{targets, WritesToTheSame}
use Rattle.qz_meaning.proofs.Rising.{same_instance, values_up, up_idle, walks_rise}

-- the walks of a whole program
pub whole_rises : (a b : Passing) → SceneBelow a.now b.now → (s : Stmt) → Rises WriteBelow (walk a s) (walk b s)
whole_rises a b up s =
    walks_rise a.now b.now up Write (Option Residual) WriteBelow (residing a) (residing b) (λ v w h. h)
    (no_calls (residing a)) (no_calls (residing b))
    (λ number arguments. up_idle a.now b.now up Write (Option Residual) WriteBelow (residing a) (residing b) (λ v w h. h)) s

module _ (s t : Scene) (up : SceneBelow s t) (a b : Answers) (more : AnswersBelow a b) where
  given_up : (c d : Context) → ContextBelow c d → (one : Arg) → GivenBelow (given_here s c one) (given_here t d one)
  given_up c d k (arg.In value) = values_up s t up c d k value
  given_up c d k (arg.Out variable) = same_instance s t up c d k variable

  all_given_up : (c d : Context) → ContextBelow c d → (arguments : List Arg)
      → AllZip GivenBelow (map (given_here s c) arguments) (map (given_here t d) arguments)
  all_given_up c d k [] = tt
  all_given_up c d k (one ∷ others) = (given_up c d k one, all_given_up c d k others)

  up_open : (number : ℕ) (arguments : List Arg)
      → Rises DeedBelow (open_call s [] landing_calls a number arguments) (open_call t [] landing_calls b number arguments)
  up_open number arguments = record {
    ends = λ c d m k. more.ends_at_once number m;
    start = λ c d g h m k p. ((record { call = refl; arguments = all_given_up c d k arguments }, p, refl), tt);
    ended = λ c d r k. more.ends number;
    resume = λ c d r g h k p. ((record { call = refl; arguments = all_given_up c d k arguments }, p), tt);
  }

  pub open_rises : (x : Stmt) → Rises DeedBelow (open_walk s a x) (open_walk t b x)
  open_rises =
      walks_rise s t up Deed (List Spot) DeedBelow landing landing (λ v w h. h)
      (open_call s [] landing_calls a) (open_call t [] landing_calls b) up_open

same_targets : (ws vs : List Write) → AllZip WriteBelow ws vs → targets ws ≡ targets vs
same_targets [] [] h = refl
same_targets [] (v ∷ vs) h = absurd h
same_targets (w ∷ ws) [] h = absurd h
same_targets (w ∷ ws) (v ∷ vs) h =
    ap₂ (λ (one : Instance × Bool) (rest : List (Instance × Bool)). one ∷ rest)
    (ap₂ (λ (i : Instance) (delayed : Bool). (i, delayed)) h.0.target h.0.delayed) (same_targets ws vs h.1)

-- nothing is known of instances
abbrev unknowing : Passing → Passing
unknowing a = record { class_of = a.class_of; type_of = a.type_of; now = λ i. Unknown; later = a.later }

-- nothing is known of bound arguments
abbrev unbound : Context → Context
unbound c = record { marks = c.marks; bound = λ n. Unknown }

-- all walks lie above the one that knows nothing
pub targets_stand : (a b : Passing) (s : Stmt) → WritesToTheSame a b s
targets_stand a b s = record {
  start = λ c d g h m same.
      sym (same_targets _ _ ((below a).start (unbound c) c Unknown g m record { marks = λ n. refl; bound = λ n. tt } tt))
      ∙ same_targets _ _ ((below b).start (unbound c) d Unknown h m record { marks = same; bound = λ n. tt } tt);
  resume = λ c d r g h same.
      sym (same_targets _ _ ((below a).resume (unbound c) c r Unknown g record { marks = λ n. refl; bound = λ n. tt } tt))
      ∙ same_targets _ _ ((below b).resume (unbound c) d r Unknown h record { marks = same; bound = λ n. tt } tt);
} where
  below : (it : Passing) → Rises WriteBelow (walk (unknowing a) s) (walk it s)
  below it = whole_rises (unknowing a) it (λ i. tt) s
