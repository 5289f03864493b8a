-- One more member of a sequence, in the functions of the mirror over a list.
use Rattle.std.proofs.Common.{true, false, refl, true≢false, arith, ◌≡◌, ℕ, ◌+◌, ◌<◌, Bool, ◌&&◌, ◌||◌, List, [], ◌∷◌, ◌++◌, map, length, drop, get_or, ap, ap₂, sym, ◌∙◌, append_assoc}
use Rattle.std.proofs.lemmas.List.{at_drop_more, get_or-map}
use Rattle.std.proofs.lemmas.List.Folds.{list_all_at}
use Rattle.std.proofs.Math.ListN.{length-map}
use Rattle.qz_first.specs.RestsBelow.{rests_below, all_rest_below}
use Rattle.std.proofs.Math.Bool.{and_assoc}
use Rattle.qz_syntax.specs.declared.statements.Stmt.{Stmt}
use Rattle.qz_first.specs.Mirror.{Bits, Control, mirror_of, all_at_once, start_all, enter_all, ended_after, ended_all, resume_all, move_all}

-- what is appended to what was appended
pub appended_twice : (before mid after first second : Bits) → mid ≡ before ++ first → after ≡ mid ++ second → after ≡ before ++ (first ++ second)
appended_twice before mid after first second mid_is after_is =
    after_is ∙ ap (λ bits. bits ++ second) mid_is ∙ append_assoc before first second

-- what is appended to nothing
pub appended_to_none : (none mid after first second : Bits) → none ≡ [] → mid ≡ none ++ first → after ≡ mid ++ second → after ≡ first ++ second
appended_to_none none mid after first second is mid_is after_is = after_is ∙ ap (λ bits. bits ++ second) (mid_is ∙ ap (λ bits. bits ++ first) is)

pub appended_again : (before mid after first : Bits) (second : Bool → Bits) (a b : Bool) → mid ≡ before ++ first → after ≡ mid ++ second a → a ≡ b
    → after ≡ before ++ (first ++ second b)
appended_again before mid after first second a b mid_is after_is same =
    appended_twice before mid after first (second b) mid_is (after_is ∙ ap (λ c. mid ++ second c) same)

-- the ends up to and with a member, from nets for its own
pub ended_by : (part : Stmt) (control : Control) (before at_once resumed next : Bool) → at_once ≡ (mirror_of part).at_once
    → resumed ≡ (mirror_of part).ended control → next ≡ ((before && at_once) || resumed) → next ≡ ended_after (mirror_of part) control before
ended_by part control before at_once resumed next at_once_is resumed_is is =
    is ∙ ap₂ (λ a b. (before && a) || b) at_once_is resumed_is

-- where the places of all members are among the registers, so are those of each
below_at : (registers : ℕ) (parts : List Stmt) (i : ℕ) (d : Stmt) → i < length parts → all_rest_below registers parts ≡ true
    → rests_below registers (get_or parts i d) ≡ true
below_at registers parts i d within below = by (rests_below registers (get_or parts i d)) refl
  where
    by : (b : Bool) → rests_below registers (get_or parts i d) ≡ b → rests_below registers (get_or parts i d) ≡ true
    by true is = is
    by false is =
        let inside : i < length (map (rests_below registers) parts) = let e = length-map parts (rests_below registers) in omega arith in
        absurd (true≢false (sym below
        ∙ list_all_at (λ b. b) (map (rests_below registers) parts) i false inside (get_or-map (rests_below registers) parts i d false within ∙ is)))

module _ (parts : List Stmt) (i : ℕ) (part : Stmt) (within : i < length parts) (is : part ≡ get_or parts i part) where
  -- the member at the index goes first in what is left
  pub next_member : {Y : Type 0} (F : List Stmt → Y) → F (drop i parts) ≡ F (part ∷ drop (i + 1) parts)
  next_member F = at_drop_more F parts i part within ∙ ap (λ p. F (p ∷ drop (i + 1) parts)) (sym is)

  pub member_below : (registers : ℕ) → all_rest_below registers parts ≡ true → rests_below registers part ≡ true
  member_below registers below = ap (rests_below registers) is ∙ below_at registers parts i part within below

  pub at_once_step : (ends here next : Bool) → here ≡ (mirror_of part).at_once → next ≡ (ends && here)
      → (next && all_at_once (map mirror_of (drop (i + 1) parts))) ≡ (ends && all_at_once (map mirror_of (drop i parts)))
  at_once_step ends here next here_is next_is =
      let rest = all_at_once (map mirror_of (drop (i + 1) parts)) in
      ap (λ b. b && rest) (next_is ∙ ap (λ b. ends && b) here_is) ∙ and_assoc ends (mirror_of part).at_once rest
      ∙ ap (λ b. ends && b) (sym (next_member (λ left. all_at_once (map mirror_of left))))

  pub ended_step : (control : Control) (so_far next : Bool) → next ≡ ended_after (mirror_of part) control so_far
      → ended_all (map mirror_of (drop (i + 1) parts)) control next ≡ ended_all (map mirror_of (drop i parts)) control so_far
  ended_step control so_far next next_is =
      ap (λ b. ended_all (map mirror_of (drop (i + 1) parts)) control b) next_is
      ∙ sym (next_member (λ left. ended_all (map mirror_of left) control so_far))

  pub enter_step : (before after : Bits) (start here next : Bool) → after ≡ before ++ (mirror_of part).enter start
      → here ≡ (mirror_of part).at_once → next ≡ (start && here)
      → after ++ enter_all (map mirror_of (drop (i + 1) parts)) next ≡ before ++ enter_all (map mirror_of (drop i parts)) start
  enter_step before after start here next after_is here_is next_is =
      let rest : Bool → Bits = λ b. enter_all (map mirror_of (drop (i + 1) parts)) b in
      ap (λ b. after ++ rest b) (next_is ∙ ap (λ b. start && b) here_is)
      ∙ ap (λ bits. bits ++ rest (start && (mirror_of part).at_once)) after_is
      ∙ append_assoc before ((mirror_of part).enter start) (rest (start && (mirror_of part).at_once))
      ∙ ap (λ bits. before ++ bits) (sym (next_member (λ left. enter_all (map mirror_of left) start)))

  pub start_step : (before after : Bits) (start here next : Bool) → after ≡ before ++ (mirror_of part).start start
      → here ≡ (mirror_of part).at_once → next ≡ (start && here)
      → after ++ start_all (map mirror_of (drop (i + 1) parts)) next ≡ before ++ start_all (map mirror_of (drop i parts)) start
  start_step before after start here next after_is here_is next_is =
      let rest : Bool → Bits = λ b. start_all (map mirror_of (drop (i + 1) parts)) b in
      ap (λ b. after ++ rest b) (next_is ∙ ap (λ b. start && b) here_is)
      ∙ ap (λ bits. bits ++ rest (start && (mirror_of part).at_once)) after_is
      ∙ append_assoc before ((mirror_of part).start start) (rest (start && (mirror_of part).at_once))
      ∙ ap (λ bits. before ++ bits) (sym (next_member (λ left. start_all (map mirror_of left) start)))

  pub move_step : (control : Control) (before mid after : Bits) (so_far next : Bool) → mid ≡ before ++ (mirror_of part).move control
      → after ≡ mid ++ (mirror_of part).enter so_far → next ≡ ended_after (mirror_of part) control so_far
      → after ++ move_all (map mirror_of (drop (i + 1) parts)) control next ≡ before ++ move_all (map mirror_of (drop i parts)) control so_far
  move_step control before mid after so_far next mid_is after_is next_is =
      let moved = (mirror_of part).move control in
      let entered = (mirror_of part).enter so_far in
      let rest = move_all (map mirror_of (drop (i + 1) parts)) control (ended_after (mirror_of part) control so_far) in
      ap (λ b. after ++ move_all (map mirror_of (drop (i + 1) parts)) control b) next_is
      ∙ ap (λ bits. bits ++ rest) (appended_twice before mid after moved entered mid_is after_is)
      ∙ append_assoc before (moved ++ entered) rest
      ∙ ap (λ bits. before ++ bits) (append_assoc moved entered rest ∙ sym (next_member (λ left. move_all (map mirror_of left) control so_far)))

  pub resume_step : (control : Control) (before mid after : Bits) (act so_far started next : Bool)
      → mid ≡ before ++ (mirror_of part).resume control act → started ≡ (act && so_far)
      → after ≡ mid ++ (mirror_of part).start started → next ≡ ended_after (mirror_of part) control so_far
      → after ++ resume_all (map mirror_of (drop (i + 1) parts)) control act next
      ≡ before ++ resume_all (map mirror_of (drop i parts)) control act so_far
  resume_step control before mid after act so_far started next mid_is started_is after_is next_is =
      let resumed = (mirror_of part).resume control act in
      let begun = (mirror_of part).start (act && so_far) in
      let rest = resume_all (map mirror_of (drop (i + 1) parts)) control act (ended_after (mirror_of part) control so_far) in
      ap (λ b. after ++ resume_all (map mirror_of (drop (i + 1) parts)) control act b) next_is
      ∙ ap (λ bits. bits ++ rest) (appended_twice before mid after resumed begun mid_is (after_is ∙ ap (λ b. mid ++ (mirror_of part).start b) started_is))
      ∙ append_assoc before (resumed ++ begun) rest
      ∙ ap (λ bits. before ++ bits) (append_assoc resumed begun rest ∙ sym (next_member (λ left. resume_all (map mirror_of left) control act so_far)))
