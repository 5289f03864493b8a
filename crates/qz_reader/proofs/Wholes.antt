-- All words of a text.
use Rattle.std.proofs.Common.{◌≡◌, ◌≢◌, ℕ, zero, suc, ◌+◌, ◌<◌, ◌≤◌, ◌⊎◌, inl, inr, List, [], ◌∷◌, ◌++◌, take, drop, length, sym, refl, ap, subst, ◌∙◌, append_assoc, add-one, arith}
use Rattle.qz_syntax.specs.declared.files.File.{File}
use Rattle.qz_phrases.specs.declared.words.Spot.{Spot}
use Rattle.qz_phrases.specs.declared.words.Word.{Word}
use Rattle.qz_phrases.specs.declared.words.Word.TheVariants as word
use Rattle.qz_phrases.specs.declared.words.Sort.TheVariants as sort
use Rattle.qz_phrases.specs.declared.cursor.Cursor.{Cursor}
use Rattle.qz_phrases.specs.declared.cursor.Fault.TheVariants.{Parse, Deep}
use Rattle.qz_phrases.specs.Words.{first, sort_of}
use Rattle.qz_phrases.specs.Reading.{upcoming, Agrees, ReadsSome, Begins, Fails}
use Rattle.qz_phrases.proofs.Ahead.{agrees_here}
use Rattle.qz_reader.specs.Files.{a_file}
use Rattle.qz_reader.specs.Texts.{IsFile, most, BeginsFile, IsParse, IsDeep}
use Rattle.qz_reader.proofs.Prototypes.{file_fill}

past_end : (ws : List Spot) (at : ℕ) → length ws ≤ at → drop at ws ≡ []
past_end [] zero h = refl
past_end [] (suc at) h = refl
past_end (w ∷ ws) zero h = absurd (omega arith)
past_end (w ∷ ws) (suc at) h = past_end ws at (omega arith)

sort_some : (w : Word) → sort_of w ≢ sort.End
sort_some (word.Name n) e = cc (e)
sort_some (word.Number n) e = cc (e)
sort_some (word.Literal n v) e = cc (e)
sort_some (word.Mark m) e = cc (e)

first_some : (ws : List Spot) (at : ℕ) → at < length ws → first (drop at ws) ≢ sort.End
first_some [] at h e = omega (arith, h)
first_some (w ∷ ws) zero h e = sort_some w.word e
first_some (w ∷ ws) (suc at) h e = first_some ws at (omega arith) e

drop_next : (ws : List Spot) (at : ℕ) (s : Spot) (more : List Spot) → drop at ws ≡ s ∷ more → drop (suc at) ws ≡ more
drop_next [] zero s more e = absurd (cc (e))
drop_next [] (suc at) s more e = absurd (cc (e))
drop_next (w ∷ ws) zero s more e = cc (e)
drop_next (w ∷ ws) (suc at) s more e = drop_next ws at s more e

within : (ws : List Spot) (at : ℕ) (s : Spot) (more : List Spot) → drop at ws ≡ s ∷ more → at < length ws
within [] zero s more e = absurd (cc (e))
within [] (suc at) s more e = absurd (cc (e))
within (w ∷ ws) zero s more e = omega arith
within (w ∷ ws) (suc at) s more e = let less = within ws at s more e in omega (arith, less)

all_coming : (s : Cursor) → s.read ≡ 0 → upcoming s ≡ s.words.now
all_coming s zero_is = ap (λ n. drop n s.words.now) zero_is

pub text_read : (s0 s1 : Cursor) (f : File) → s0.read ≡ 0 → length s1.words.now ≤ s1.read → ReadsSome a_file most s0 s1 f → IsFile most s0.words.now f
text_read s0 s1 f zero_is past k =
    let whole : k.it.front ++ [] ≡ s0.words.now = ap (λ ws. k.it.front ++ ws) (sym (past_end s1.words.now s1.read past)) ∙ sym k.it.read ∙ all_coming s0 zero_is in
    subst (λ ws. a_file most f ws []) whole (k.it.stands most (omega arith) [] (inl refl))

-- what was read, as the words before a place
fronted : (s0 s1 : Cursor) → s0.read ≡ 0 → s1.words.now ≡ s0.words.now → (front : List Spot) → upcoming s0 ≡ front ++ upcoming s1 → s0.words.now ≡ front ++ drop s1.read s0.words.now
fronted s0 s1 zero_is words front read = sym (all_coming s0 zero_is) ∙ read ∙ ap (λ ws. front ++ drop s1.read ws) words

begun : (s0 s1 : Cursor) → s0.read ≡ 0 → s1.words.now ≡ s0.words.now → (front : List Spot) → upcoming s0 ≡ front ++ upcoming s1 → Begins a_file most front ⊎ (front ≡ []) → BeginsFile most s0.words.now s1.read
begun s0 s1 zero_is words front read (inl b) = record { front = front; before = fronted s0 s1 zero_is words front read; more = b.more ++ []; file = b.phrase; is = b.stands most (omega arith) [] refl }
begun s0 s1 zero_is words front read (inr e) = record {
  front = front;
  before = fronted s0 s1 zero_is words front read;
  more = (file_fill {room = most}).more ++ [];
  file = (file_fill {room = most}).phrase;
  is = subst (λ ws. a_file most (file_fill {room = most}).phrase (ws ++ ((file_fill {room = most}).more ++ [])) []) (sym e) ((file_fill {room = most}).stands most (omega arith) [] refl);
}

same_others : (s0 s1 : Cursor) (others : List Spot) → s1.words.now ≡ s0.words.now → take (s1.read + 1) others ≡ take (s1.read + 1) s0.words.now → Agrees s1 others
same_others s0 s1 others words same = record { same = same ∙ ap (λ ws. take (s1.read + 1) ws) (sym words) }

from_start : (s0 : Cursor) (others : List Spot) (levels : ℕ) (f : File) → s0.read ≡ 0 → IsFile levels others f → a_file levels f (drop s0.read others) []
from_start s0 others levels f zero_is h = subst (λ n. a_file levels f (drop n others) []) (sym zero_is) h

pub text_parse : (s0 s1 : Cursor) → s0.read ≡ 0 → Fails a_file most s0 s1 Parse → IsParse s0.words.now s1.read
text_parse s0 s1 zero_is k = record {
  none = λ others same levels f h. k.none others (same_others s0 s1 others k.moves.words same) levels tt f [] (from_start s0 others levels f zero_is h);
  begins = begun s0 s1 zero_is k.moves.words k.front k.read k.begins;
}

pub text_deep : (s0 s1 : Cursor) → s0.read ≡ 0 → Fails a_file most s0 s1 Deep → IsDeep s0.words.now s1.read
text_deep s0 s1 zero_is k = record {
  there = let d = k.deeper refl in within s0.words.now s1.read d.0 d.1 (ap (λ ws. drop s1.read ws) (sym k.moves.words) ∙ d.2);
  none = λ others same levels low f h. k.none others (same_others s0 s1 others k.moves.words same) levels low f [] (from_start s0 others levels f zero_is h);
  begins = begun s0 s1 zero_is k.moves.words k.front k.read k.begins;
  deeper =
      let d = k.deeper refl in
      let here : drop s1.read s0.words.now ≡ d.0 ∷ d.1 = ap (λ ws. drop s1.read ws) (sym k.moves.words) ∙ d.2 in
      let later : drop (s1.read + 1) s0.words.now ≡ d.1 = ap (λ n. drop n s0.words.now) (add-one s1.read) ∙ drop_next s0.words.now s1.read d.0 d.1 here in (
        d.3,
        record {
          front = k.front ++ d.0 ∷ [];
          before = fronted s0 s1 zero_is k.moves.words k.front k.read ∙ ap (λ ws. k.front ++ ws) here ∙ sym (append_assoc k.front (d.0 ∷ []) d.1) ∙ ap (λ ws. (k.front ++ d.0 ∷ []) ++ ws) (sym later);
          more = d.4.more ++ [];
          file = d.4.phrase;
          is = d.4.stands d.3 (omega arith) [] refl;
        },
      );
}

-- a file and then another word
pub text_goes_on : (s0 s1 : Cursor) (f : File) → s0.read ≡ 0 → s1.read < length s1.words.now → ReadsSome a_file most s0 s1 f → IsParse s0.words.now s1.read
text_goes_on s0 s1 f zero_is low k = record {
  none = λ others same levels g h.
      let agrees = same_others s0 s1 others k.it.moves.words same in
      let o = k.it.only others agrees levels g [] (from_start s0 others levels g zero_is h) in
      first_some s1.words.now s1.read low (sym (agrees_here s1 others agrees) ∙ ap first (sym o.1));
  begins = record { front = k.it.front; before = fronted s0 s1 zero_is k.it.moves.words k.it.front k.it.read; more = []; file = f; is = k.it.stands most (omega arith) [] (inl refl) };
}

-- the words spell no other file
pub text_only : (s0 s1 : Cursor) (f : File) → s0.read ≡ 0 → ReadsSome a_file most s0 s1 f → (levels : ℕ) (g : File) → IsFile levels s0.words.now g → g ≡ f
text_only s0 s1 f zero_is k levels g h =
    (k.it.only s0.words.now (same_others s0 s1 s0.words.now k.it.moves.words refl) levels g [] (from_start s0 s0.words.now levels g zero_is h)).0
