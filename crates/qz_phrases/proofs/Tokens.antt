-- Steps over one word.
use Rattle.std.proofs.Common.{◌≡◌, ℕ, zero, suc, ◌+◌, ◌<◌, ◌≤◌, List, [], ◌∷◌, drop, length, slice_index_or, sym, refl, ap, ◌∙◌, add-one, arith}
use Rattle.std.proofs.Math.Seq.{drop-cons}
use Rattle.qz_phrases.specs.declared.words.Spot.{Spot}
use Rattle.qz_phrases.specs.declared.words.Mark.{Mark}
use Rattle.qz_phrases.specs.declared.words.Word.{Word}
use Rattle.qz_phrases.specs.declared.words.Word.TheVariants as word
use Rattle.qz_phrases.specs.declared.words.Sort.TheVariants as sort
use Rattle.qz_phrases.specs.declared.cursor.Cursor.{Cursor}
use Rattle.qz_phrases.specs.declared.cursor.Fault.TheVariants.{Parse}
use Rattle.qz_syntax.specs.declared.file_expressions.NameAt.{NameAt}
use Rattle.qz_phrases.specs.Words.{first, sort_of}
use Rattle.qz_phrases.specs.Phrases.{token, one, name, number, literal}
use Rattle.qz_phrases.specs.Reading.{upcoming, ReadsSome, Fails}
use Rattle.qz_phrases.proofs.Ahead.{agrees_here}
use Rattle.qz_phrases.proofs.Combining.{always, token_reads, no_phrase}

next_spot : (ws : List Spot) (at : ℕ) (d : Spot) → at < length ws → drop at ws ≡ slice_index_or ws at d ∷ drop (suc at) ws
next_spot ws at d low = drop-cons ws at d low

past_end : (ws : List Spot) (at : ℕ) → length ws ≤ at → first (drop at ws) ≡ sort.End
past_end [] zero h = refl
past_end [] (suc at) h = refl
past_end (w ∷ ws) zero h = absurd (omega arith)
past_end (w ∷ ws) (suc at) h = past_end ws at (omega arith)

-- the sort of the word at the cursor, and of the end
pub here_sort : (s : Cursor) (d : Spot) → s.read < length s.words.now → first (upcoming s) ≡ sort_of (slice_index_or s.words.now s.read d).word
here_sort s d low = ap first (next_spot s.words.now s.read d low)

pub end_sort : (s : Cursor) → length s.words.now ≤ s.read → first (upcoming s) ≡ sort.End
end_sort s h = past_end s.words.now s.read h

pub token_read : {A : Type 0} (make : A → Spot) → ((x y : A) → make x ≡ make y → x ≡ y) → {old new : Cursor} (x : A) (d : Spot) → old.read < length old.words.now → slice_index_or old.words.now old.read d ≡ make x
    → new.words.now ≡ old.words.now → new.read ≡ old.read + 1 → (room : ℕ) → ReadsSome (always (token make)) room old new x
token_read make same {old} {new} x d low is words next room =
    let here : upcoming old ≡ make x ∷ drop (suc old.read) old.words.now = next_spot old.words.now old.read d low ∙ ap (λ (s : Spot). s ∷ drop (suc old.read) old.words.now) is in
    let after : new.read ≡ suc old.read = next ∙ add-one old.read in
    token_reads make same {room = room} x words after (drop (suc old.read) old.words.now) here
    (here ∙ ap (λ ws. make x ∷ drop (suc old.read) ws) (sym words) ∙ ap (λ n. make x ∷ drop n new.words.now) (sym after))

pub token_lacks : {A : Type 0} (make : A → Spot) {s : Cursor} → ((x : A) → sort_of (make x).word ≡ first (upcoming s) → ⊥) → (room : ℕ) → Fails (always (token make)) room s s Parse
token_lacks make {s} lacks room = no_phrase (λ others agrees levels y rest h. lacks y (sym (ap first h) ∙ agrees_here s others agrees))

-- a word with its offset
spot_is : (s : Spot) (w : Word) → s.word ≡ w → s ≡ record { word = w; at = s.at }
spot_is s w is = ap (λ w. record { word = w; at = s.at }) is

pub mark_read : (m other : Mark) {old new : Cursor} (d : Spot) → old.read < length old.words.now → (slice_index_or old.words.now old.read d).word ≡ word.Mark other → other ≡ m
    → new.words.now ≡ old.words.now → new.read ≡ old.read + 1 → (room : ℕ) → ReadsSome (always (one m)) room old new (slice_index_or old.words.now old.read d).at
mark_read m other {old} {new} d low is same words read =
    token_read (λ at. record { word = word.Mark m; at = at }) (λ x y e. ap (λ (s : Spot). s.at) e) (slice_index_or old.words.now old.read d).at d low
    (spot_is (slice_index_or old.words.now old.read d) (word.Mark m) (is ∙ ap word.Mark same)) words read

pub name_read : (n : List ℕ) {old new : Cursor} (d : Spot) → old.read < length old.words.now → (slice_index_or old.words.now old.read d).word ≡ word.Name n
    → new.words.now ≡ old.words.now → new.read ≡ old.read + 1 → (room : ℕ) → ReadsSome (always name) room old new (record { name = n; at = (slice_index_or old.words.now old.read d).at })
name_read n {old} {new} d low is words read =
    token_read (λ (n : NameAt). record { word = word.Name n.name; at = n.at }) (λ x y e. let a = ap (λ (s : Spot). s.at) e in let w : word.Name x.name ≡ word.Name y.name = ap (λ (s : Spot). s.word) e in let b : x.name ≡ y.name = cc (w) in (λ i. record { name = b i; at = a i }))
    (record { name = n; at = (slice_index_or old.words.now old.read d).at }) d low (spot_is (slice_index_or old.words.now old.read d) (word.Name n) is) words read

pub number_read : (n : ℕ) {old new : Cursor} (d : Spot) → old.read < length old.words.now → (slice_index_or old.words.now old.read d).word ≡ word.Number n
    → new.words.now ≡ old.words.now → new.read ≡ old.read + 1 → (room : ℕ) → ReadsSome (always number) room old new (n, (slice_index_or old.words.now old.read d).at)
number_read n {old} {new} d low is words read =
    token_read (λ (n : ℕ × ℕ). record { word = word.Number n.0; at = n.1 }) (λ x y e. let a = ap (λ (s : Spot). s.at) e in let w : word.Number x.0 ≡ word.Number y.0 = ap (λ (s : Spot). s.word) e in let b : x.0 ≡ y.0 = cc (w) in (λ i. (b i, a i)))
    (n, (slice_index_or old.words.now old.read d).at) d low (spot_is (slice_index_or old.words.now old.read d) (word.Number n) is) words read

pub literal_read : (n v : ℕ) {old new : Cursor} (d : Spot) → old.read < length old.words.now → (slice_index_or old.words.now old.read d).word ≡ word.Literal n v
    → new.words.now ≡ old.words.now → new.read ≡ old.read + 1 → (room : ℕ) → ReadsSome (always literal) room old new (n, v, (slice_index_or old.words.now old.read d).at)
literal_read n v {old} {new} d low is words read =
    token_read (λ (n : ℕ × ℕ × ℕ). record { word = word.Literal n.0 n.1; at = n.2 })
    (λ x y e. let a = ap (λ (s : Spot). s.at) e in let w : word.Literal x.0 x.1 ≡ word.Literal y.0 y.1 = ap (λ (s : Spot). s.word) e in let b : x.0 ≡ y.0 = cc (w) in let c : x.1 ≡ y.1 = cc (w) in (λ i. (b i, c i, a i)))
    (n, v, (slice_index_or old.words.now old.read d).at) d low (spot_is (slice_index_or old.words.now old.read d) (word.Literal n v) is) words read

-- where another word comes
pub mark_lacks : (m other : Mark) {s : Cursor} (d : Spot) → s.read < length s.words.now → (slice_index_or s.words.now s.read d).word ≡ word.Mark other → (other ≡ m → ⊥) → (room : ℕ) → Fails (always (one m)) room s s Parse
mark_lacks m other {s} d low is differs = token_lacks (λ at. record { word = word.Mark m; at = at })
    (λ x e. let same : sort.Mark m ≡ sort.Mark other = e ∙ here_sort s d low ∙ ap sort_of is in let back : other ≡ m = cc (same) in differs back)

pub no_mark_lacks : (m : Mark) {s : Cursor} (d : Spot) → s.read < length s.words.now → ((n : Mark) → (slice_index_or s.words.now s.read d).word ≡ word.Mark n → ⊥) → (room : ℕ) → Fails (always (one m)) room s s Parse
no_mark_lacks m {s} d low lacks = token_lacks (λ at. record { word = word.Mark m; at = at }) (λ x e. by_word (slice_index_or s.words.now s.read d).word refl (e ∙ here_sort s d low))
  where
    by_word : (w : Word) → (slice_index_or s.words.now s.read d).word ≡ w → sort.Mark m ≡ sort_of w → ⊥
    by_word (word.Mark n) is e = lacks n is
    by_word (word.Name n) is e = cc (e)
    by_word (word.Number n) is e = cc (e)
    by_word (word.Literal n v) is e = cc (e)

pub name_lacks : {s : Cursor} (d : Spot) → s.read < length s.words.now → ((n : List ℕ) → (slice_index_or s.words.now s.read d).word ≡ word.Name n → ⊥) → (room : ℕ) → Fails (always name) room s s Parse
name_lacks {s} d low lacks = token_lacks (λ (n : NameAt). record { word = word.Name n.name; at = n.at }) (λ x e. by_word (slice_index_or s.words.now s.read d).word refl (e ∙ here_sort s d low))
  where
    by_word : (w : Word) → (slice_index_or s.words.now s.read d).word ≡ w → sort.Name ≡ sort_of w → ⊥
    by_word (word.Mark n) is e = cc (e)
    by_word (word.Name n) is e = lacks n is
    by_word (word.Number n) is e = cc (e)
    by_word (word.Literal n v) is e = cc (e)

pub number_lacks : {s : Cursor} (d : Spot) → s.read < length s.words.now → ((n : ℕ) → (slice_index_or s.words.now s.read d).word ≡ word.Number n → ⊥) → (room : ℕ) → Fails (always number) room s s Parse
number_lacks {s} d low lacks = token_lacks (λ (n : ℕ × ℕ). record { word = word.Number n.0; at = n.1 }) (λ x e. by_word (slice_index_or s.words.now s.read d).word refl (e ∙ here_sort s d low))
  where
    by_word : (w : Word) → (slice_index_or s.words.now s.read d).word ≡ w → sort.Number ≡ sort_of w → ⊥
    by_word (word.Mark n) is e = cc (e)
    by_word (word.Name n) is e = cc (e)
    by_word (word.Number n) is e = lacks n is
    by_word (word.Literal n v) is e = cc (e)

pub literal_lacks : {s : Cursor} (d : Spot) → s.read < length s.words.now → ((n v : ℕ) → (slice_index_or s.words.now s.read d).word ≡ word.Literal n v → ⊥) → (room : ℕ) → Fails (always literal) room s s Parse
literal_lacks {s} d low lacks = token_lacks (λ (n : ℕ × ℕ × ℕ). record { word = word.Literal n.0 n.1; at = n.2 }) (λ x e. by_word (slice_index_or s.words.now s.read d).word refl (e ∙ here_sort s d low))
  where
    by_word : (w : Word) → (slice_index_or s.words.now s.read d).word ≡ w → sort.Literal ≡ sort_of w → ⊥
    by_word (word.Mark n) is e = cc (e)
    by_word (word.Name n) is e = cc (e)
    by_word (word.Number n) is e = cc (e)
    by_word (word.Literal n v) is e = lacks n v is
