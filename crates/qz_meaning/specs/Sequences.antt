-- Statements one after the other.
use Rattle.std.specs.Prelude.{ℕ, zero, suc, ◌+◌, Bool, false, ◌&&◌, nat_lt, List, [], ◌∷◌, ◌++◌, length, drop, slice_get, unwrap_or, if◌then◌else◌}
use Rattle.std.specs.List.{flat_map, list_all}
use Rattle.qz_values.specs.declared.Know.{Know}
use Rattle.qz_values.specs.declared.Know.TheVariants.{Known}
use Rattle.qz_values.specs.Values.{yes}
use Rattle.qz_values.specs.Knowledge.{both, knows_yes}
use Rattle.qz_syntax.specs.declared.places.Mark.{Mark}
use Rattle.qz_syntax.specs.declared.places.Mark.TheVariants as mark
use Rattle.qz_syntax.specs.declared.places.Residual.{Residual, out-Residual}
use Rattle.qz_syntax.specs.declared.places.Residual.TheOpen.{Residual-F}
use Rattle.qz_meaning.specs.Scenes.{Context}
use Rattle.qz_meaning.specs.Residuals.{inner, member_of}
use Rattle.qz_meaning.specs.Accounts.{Account}
use Rattle.qz_meaning.specs.Layouts.{PlaceBits, Layout, bare}
use Rattle.qz_meaning.specs.Behaviors.{Behavior, idle}

-- the first is started with the guard, each next one with the guard and the ends of all before it
abbrev pub start_in_turn : {D T : Type 0} → Context → List (Behavior D T) → Know → Mark → List D
start_in_turn ctx [] g m = []
start_in_turn ctx (part ∷ parts) g m = part.start ctx g m ++ start_in_turn ctx parts (both g (part.ends ctx m)) m

-- the ends so far, and those of all these
abbrev pub ends_of_all : {D T : Type 0} → Context → List (Behavior D T) → Know → Mark → Know
ends_of_all ctx [] so_far m = so_far
ends_of_all ctx (part ∷ parts) so_far m = ends_of_all ctx parts (both so_far (part.ends ctx m)) m

-- where control rests: in the first member that doesn't end, of which this is the number of the first
abbrev pub rest_in_first : {D T : Type 0} → Account D T → Context → List (Behavior D T) → ℕ → Mark → T
rest_in_first acc ctx [] number m = acc.nowhere
rest_in_first acc ctx (part ∷ parts) number m =
    if knows_yes (part.ends ctx m) then rest_in_first acc ctx parts (number + 1) m
    else acc.in_member number (part.rest ctx m)

-- a member by its number
abbrev pub member : {A : Type 0} → A → List A → ℕ → A
member none parts number = unwrap_or (slice_get parts number) none

-- the member in which control rests
abbrev pub resting_member : {A : Type 0} → A → List A → Residual → A
resting_member none parts r = member none parts (member_of r)

-- the members after the one in which control rests
abbrev pub later_members : {A : Type 0} → List A → Residual → List A
later_members parts r = drop (member_of r + 1) parts

-- It ends where all members do. The one inside is resumed, and later ones are started with mark zero.
abbrev pub sequence : {D T : Type 0} → Account D T → List (Behavior D T) → Behavior D T
sequence acc parts = record {
  ends = λ ctx m. ends_of_all ctx parts (Known yes) m;
  start = λ ctx g m. start_in_turn ctx parts g m;
  ended = λ ctx r. ends_of_all ctx (later_members parts r) ((resting_member (idle acc) parts r).ended ctx (inner r)) mark.Zero;
  resume = λ ctx r g.
      (resting_member (idle acc) parts r).resume ctx (inner r) g
      ++ start_in_turn ctx (later_members parts r) (both g ((resting_member (idle acc) parts r).ended ctx (inner r))) mark.Zero;
  rest = λ ctx m. rest_in_first acc ctx parts 0 m;
  after = λ ctx r.
      (if knows_yes ((resting_member (idle acc) parts r).ended ctx (inner r))
      then rest_in_first acc ctx (later_members parts r) (member_of r + 1) mark.Zero
      else acc.in_member (member_of r) ((resting_member (idle acc) parts r).after ctx (inner r)));
  kept = λ r. acc.in_member (member_of r) ((resting_member (idle acc) parts r).kept (inner r));
}

-- control rests in one member of a sequence, as it can rest in that member
abbrev pub fits_in_one : List Layout → Residual-F Residual → Bool
fits_in_one parts (Residual-F.InSeq number inside) = nat_lt number (length parts) && (member bare parts number).fits inside
fits_in_one parts other = false

-- the bits say that control rests in none of these
abbrev pub all_away : PlaceBits → List Layout → Bool
all_away bits parts = list_all (λ (part : Layout). part.away bits) parts

-- the bits say that control rests so in the member with this number, and in no other one
abbrev pub at_one : PlaceBits → List Layout → ℕ → Residual → Bool
at_one bits [] number r = false
at_one bits (part ∷ parts) zero r = part.at bits r && all_away bits parts
at_one bits (part ∷ parts) (suc number) r = part.away bits && at_one bits parts number r

-- a resume comes past the member inside and all later ones
abbrev pub sequence_layout : List Layout → Layout
sequence_layout parts = record {
  met_on_start = λ m. flat_map (λ (part : Layout). part.met_on_start m) parts;
  met_on_resume = λ r.
      (resting_member bare parts r).met_on_resume (inner r)
      ++ flat_map (λ (part : Layout). part.met_on_start mark.Zero) (later_members parts r);
  fits = λ r. fits_in_one parts (out-Residual r);
  stores_at = λ r. (resting_member bare parts r).stores_at (inner r);
  at = λ bits r. at_one bits parts (member_of r) (inner r);
  away = λ bits. all_away bits parts;
}
