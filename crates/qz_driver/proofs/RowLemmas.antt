-- What a row comes to, from what was got of its files.
use Rattle.std.proofs.Common.{◌≡◌, ℕ, zero, suc, ◌<◌, ◌≤◌, List, [], ◌∷◌, take, length, Option, Some, None, IsSome, sym, refl, ap, ◌∙◌, arith}
use Rattle.std.specs.Prelude.{◌↔◌, IsSomeAnd}
use Rattle.std.proofs.lemmas.List.{length-map}
use Rattle.std.proofs.lemmas.Bool.Decides.{nat_tests}
use Rattle.qz_io.specs.Held.{Held, held_under}
use Rattle.qz_io.specs.Answers.{IsAbsent, IsTooLong, IfBytes}
use Rattle.qz_io.specs.declared.answers.Got.{Got}
use Rattle.qz_io.specs.declared.answers.Got.TheVariants as got
use Rattle.qz_diag.specs.Causes.{Cause, cause_of}
use Rattle.qz_driver.specs.declared.work.Stop.{Stop}
use Rattle.qz_driver.specs.declared.work.Stop.TheVariants as stop
use Rattle.qz_driver.specs.Rows.{Content, Bytes, Read, Row, AreContents, IsAgainst, IsMade, content_within, contents_in}
use Rattle.qz_driver.specs.Rows.{TooLong as ContentTooLong}
use Rattle.qz_driver.specs.Answers.{FilesSeen, FailsToRead}
use Rattle.qz_driver.specs.Work.{content_of, IsFound, IsMissed, IsUngot, StopsOver, Stops}

-- what files tell of the one that was got
pub record Told (limit : ℕ) (name : List ℕ) (held : Option Held) (found : Got) : Type 0 where
  pub absent : IsSome held → IsAbsent found ↔ (held_under held name ≡ None)
  pub too_long : IsSome held → IsTooLong found ↔ IsSomeAnd (held_under held name) (λ bytes. limit < length bytes)
  pub bytes : IsSome held → IfBytes found (λ bytes. held_under held name ≡ Some bytes)
  pub within : IfBytes found (λ bytes. length bytes ≤ limit)

within_limit : (limit : ℕ) (bytes : List ℕ) → length bytes ≤ limit → content_within limit (Some bytes) ≡ Bytes bytes
within_limit limit bytes le = grind (arith, nat_tests)

above_limit : (limit : ℕ) (held : Option (List ℕ)) → IsSomeAnd held (λ bytes. limit < length bytes) → content_within limit held ≡ ContentTooLong
above_limit limit None above = absurd above
above_limit limit (Some bytes) above = grind (arith, nat_tests)

-- what was got is what is held, within the limit
pub is_found : (limit : ℕ) (name : List ℕ) (held : Option Held) (found : Got) → Told limit name held found → IsFound name limit held (content_of found)
is_found limit name held (got.Bytes b) told known =
    sym (ap (content_within limit) (told.bytes known) ∙ within_limit limit b.items told.within)
is_found limit name held got.Absent told known = sym (ap (content_within limit) ((told.absent known).0 tt))
is_found limit name held got.TooLong told known = sym (above_limit limit (held_under held name) ((told.too_long known).0 tt))

-- a row that writes no line at its end
abbrev pub row_with : Read → List Read → (List Content → Cause → Type 0) → List ℕ → (List Content → List ℕ → Type 0) → Row
row_with first others against puts makes = record { reads = first ∷ others; against = against; puts = puts; makes = makes; says = None }

module _ (first : Read) (others : List Read) (against : List Content → Cause → Type 0) (puts : List ℕ) (makes : List Content → List ℕ → Type 0)
    (starts : (cause : Cause) → against [] cause → ⊥) where
  -- the first file, and what is held of the others
  pub first_contents : (held : Option Held) (content : Content) → IsFound first.name first.limit held content
      → AreContents (row_with first others against puts makes) held (content ∷ contents_in held others)
  first_contents held content found = record {
    count = ap suc (length-map others (λ (read : Read). content_within read.limit (held_under held read.name)));
    told = λ known. ap (λ (c : Content). c ∷ contents_in held others) (found known);
  }

  before_first : (contents : List Content) (fewer : ℕ) → fewer < 1 → (cause : Cause) → against (take fewer contents) cause → ⊥
  before_first contents zero less cause stands = starts cause stands
  before_first contents (suc fewer) less cause stands = absurd (omega (arith, less))

  pub first_against : (held : Option Held) (content : Content) (cause : Cause) → IsFound first.name first.limit held content
      → against (content ∷ []) cause → IsAgainst (row_with first others against puts makes) held cause
  first_against held content cause found stands = record {
    contents = content ∷ contents_in held others;
    are = first_contents held content found;
    first = record { count = 1; stands = stands; first = λ fewer less. before_first (content ∷ contents_in held others) fewer less };
  }

  first_unread : (old new : FilesSeen) → IsMissed first.name old new → FailsToRead (row_with first others against puts makes) old new
  first_unread old new missed = record {
    number = 0;
    name = first.name;
    named = refl;
    missed = missed.missed;
    rose = missed.rose;
    contents = contents_in old.held (first ∷ others);
    are = record {
      count = length-map (first ∷ others) (λ (read : Read). content_within read.limit (held_under old.held read.name));
      told = λ known. refl;
    };
    clear = λ count below. before_first (contents_in old.held (first ∷ others)) count (omega (arith, below));
    held = missed.held;
  }

  -- the first file wasn't got
  pub first_ungot : (old new : FilesSeen) (stopped : Stop) → IsUngot first.name old new stopped → Stops (row_with first others against puts makes) old new stopped
  first_ungot old new (stop.Refused refusal) ungot = absurd ungot
  first_ungot old new stop.Unread ungot = (first_unread old new ungot, ungot.write_faults)
  first_ungot old new stop.Memory ungot = ungot

  -- something stands against the first file, or memory ran out
  pub first_stops : (old new : FilesSeen) (content : Content) (stopped : Stop) → IsFound first.name first.limit old.held content → new ≡ old
      → StopsOver (against (content ∷ [])) stopped → Stops (row_with first others against puts makes) old new stopped
  first_stops old new content (stop.Refused refusal) found same stands = (first_against old.held content (cause_of refusal) found stands, same)
  first_stops old new content stop.Unread found same stands = absurd stands
  first_stops old new content stop.Memory found same stands = same

module _ (first second : Read) (against : List Content → Cause → Type 0) (puts : List ℕ) (makes : List Content → List ℕ → Type 0)
    (starts : (cause : Cause) → against [] cause → ⊥)
    (content : Content) (clear : (cause : Cause) → against (content ∷ []) cause → ⊥) where
  before_second : (inputs : Content) (fewer : ℕ) → fewer < 2 → (cause : Cause) → against (take fewer (content ∷ inputs ∷ [])) cause → ⊥
  before_second inputs zero less cause stands = starts cause stands
  before_second inputs (suc zero) less cause stands = clear cause stands
  before_second inputs (suc (suc fewer)) less cause stands = absurd (omega (arith, less))

  pub both_contents : (held : Option Held) (inputs : Content) → IsFound first.name first.limit held content → IsFound second.name second.limit held inputs
      → AreContents (row_with first (second ∷ []) against puts makes) held (content ∷ inputs ∷ [])
  both_contents held inputs found then_found = record {
    count = refl;
    told = λ known. ap (λ (c : Content). c ∷ inputs ∷ []) (found known)
        ∙ ap (λ (c : Content). content_within first.limit (held_under held first.name) ∷ c ∷ []) (then_found known);
  }

  second_unread : (old new : FilesSeen) → IsFound first.name first.limit old.held content → IsMissed second.name old new
      → FailsToRead (row_with first (second ∷ []) against puts makes) old new
  second_unread old new found missed =
      let inputs : Content = content_within second.limit (held_under old.held second.name) in
      record {
        number = 1;
        name = second.name;
        named = refl;
        missed = missed.missed;
        rose = missed.rose;
        contents = content ∷ inputs ∷ [];
        are = both_contents old.held inputs found (λ known. refl);
        clear = λ count below. before_second inputs count (omega (arith, below));
        held = missed.held;
      }

  -- something stands against the second file, it wasn't got, or memory ran out
  pub second_stops : (old new : FilesSeen) (inputs : Content) (stopped : Stop) → IsFound first.name first.limit old.held content
      → IsFound second.name second.limit old.held inputs → new ≡ old
      → StopsOver (against (content ∷ inputs ∷ [])) stopped → Stops (row_with first (second ∷ []) against puts makes) old new stopped
  second_stops old new inputs (stop.Refused refusal) found then_found same stands = (
    record {
      contents = content ∷ inputs ∷ [];
      are = both_contents old.held inputs found then_found;
      first = record { count = 2; stands = stands; first = λ fewer less. before_second inputs fewer less };
    },
    same,
  )
  second_stops old new inputs stop.Unread found then_found same stands = absurd stands
  second_stops old new inputs stop.Memory found then_found same stands = same

  pub second_ungot : (old new : FilesSeen) (stopped : Stop) → IsFound first.name first.limit old.held content → IsUngot second.name old new stopped
      → Stops (row_with first (second ∷ []) against puts makes) old new stopped
  second_ungot old new (stop.Refused refusal) found ungot = absurd ungot
  second_ungot old new stop.Unread found ungot = (second_unread old new found ungot, ungot.write_faults)
  second_ungot old new stop.Memory found ungot = ungot

  -- the row's file was made of both files
  pub both_made : (held : Option Held) (inputs : Content) (bytes : List ℕ) → IsFound first.name first.limit held content
      → IsFound second.name second.limit held inputs → ((cause : Cause) → against (content ∷ inputs ∷ []) cause → ⊥)
      → makes (content ∷ inputs ∷ []) bytes → IsMade (row_with first (second ∷ []) against puts makes) held bytes
  both_made held inputs bytes found then_found never made = record {
    contents = content ∷ inputs ∷ [];
    are = both_contents held inputs found then_found;
    none = record { none = none };
    makes = made;
  } where
    none : (count : ℕ) (cause : Cause) → against (take count (content ∷ inputs ∷ [])) cause → ⊥
    none zero cause stands = starts cause stands
    none (suc zero) cause stands = clear cause stands
    none (suc (suc zero)) cause stands = never cause stands
    none (suc (suc (suc count))) cause stands = never cause stands
