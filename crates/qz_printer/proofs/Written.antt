-- Words that are written one after the other.
use Rattle.std.proofs.Common.{◌≡◌, ℕ, zero, suc, ◌+◌, ◌<◌, List, [], ◌∷◌, ◌++◌, length, drop, get_or, codes, refl, sym, ap, ◌∙◌, add-one, append_assoc, append-nil}
use Rattle.std.proofs.Math.Seq.{drop-cons}
use Rattle.std.specs.List.{flat_map, join_by}
use Rattle.qz_syntax.specs.declared.files.File.{File}
use Rattle.qz_syntax.specs.declared.files.FileProto.{FileProto}
use Rattle.qz_syntax.specs.declared.file_statements.FileBlock.{FileBlock}
use Rattle.qz_phrases.specs.declared.words.Word.{Word}
use Rattle.qz_phrases.specs.declared.words.Word.TheVariants as word
use Rattle.qz_phrases.specs.declared.words.Mark.{Mark}
use Rattle.qz_phrases.specs.declared.words.Mark.TheVariants as mark
use Rattle.qz_printer.specs.Expressions.{one}
use Rattle.qz_printer.specs.Texts.{word_text}
use Rattle.qz_printer.specs.Statements.{block_words}
use Rattle.qz_printer.specs.Files.{head_words, proto_words, file_words, canonical_text}
use Rattle.qz_printer.specs.Writing.{spaced, written, separated, from}

pub written_append : (text : List ℕ) (a b : List Word) → written text (a ++ b) ≡ written (written text a) b
written_append text [] b = refl
written_append text (w ∷ a) b = written_append (spaced text ++ word_text w) a b

-- words after a text that isn't empty
written_more : (b : ℕ) (bs : List ℕ) (words : List Word) → written (b ∷ bs) words ≡ (b ∷ bs) ++ flat_map (λ w. codes " " ++ word_text w) words
written_more b bs [] = sym (append-nil (b ∷ bs))
written_more b bs (w ∷ words) =
    written_more b ((bs ++ codes " ") ++ word_text w) words
    ∙ ap (λ l. l ++ flat_map (λ w. codes " " ++ word_text w) words) (append_assoc (b ∷ bs) (codes " ") (word_text w))
    ∙ append_assoc (b ∷ bs) (codes " " ++ word_text w) (flat_map (λ w. codes " " ++ word_text w) words)

-- the first word of a file is `module`
module_first : (protos : List FileProto) (m : FileProto) (body : FileBlock)
    → (words : List Word) × (flat_map proto_words protos ++ (head_words m ++ block_words body) ≡ word.Mark mark.Module ∷ words)
module_first [] m body = (_, refl)
module_first (p ∷ protos) m body = (_, refl)

-- a file's words, written from nothing, and a line feed
pub written_text : (f : File) → written [] (file_words f) ++ codes "\n" ≡ canonical_text f
written_text f =
    let first = module_first f.protos f.module f.body in
    ap (λ words. written [] words ++ codes "\n") first.1
    ∙ ap (λ bs. bs ++ codes "\n") (written_more 109 (codes "odule") first.0)
    ∙ ap (λ words. join_by word_text (codes " ") words ++ codes "\n") (sym first.1)

-- no members are left
pub from_end : {X : Type 0} (m : Mark) (words : X → List Word) (n : ℕ) → from m words n [] ≡ []
from_end m words zero = refl
from_end m words (suc n) = refl

-- the member of this number, after what separates it, and those after it
from_next : {X : Type 0} (m : Mark) (words : X → List Word) (n : ℕ) (x : X) (xs : List X) → from m words n (x ∷ xs) ≡ separated m n ++ (words x ++ from m words (suc n) xs)
from_next m words zero x xs = refl
from_next m words (suc n) x xs = append_assoc (one m) (words x) (flat_map (λ y. one m ++ words y) xs)

pub from_written : {X : Type 0} (m : Mark) (words : X → List Word) (xs : List X) (n : ℕ) (x : X) (t t1 t2 all : List ℕ) → n < length xs → x ≡ get_or xs n x
    → t1 ≡ written t (separated m n) → t2 ≡ written t1 (words x) → written t (from m words n (drop n xs)) ≡ all → written t2 (from m words (n + 1) (drop (n + 1) xs)) ≡ all
from_written m words xs n x t t1 t2 all within is first second so_far =
    let left = drop (suc n) xs in
    let split : drop n xs ≡ x ∷ left = drop-cons xs n x within ∙ ap (λ y. y ∷ left) (sym is) in
    ap (λ k. written t2 (from m words k (drop k xs))) (add-one n)
    ∙ ap (λ u. written u (from m words (suc n) left)) (second ∙ ap (λ u. written u (words x)) first)
    ∙ sym (ap (λ ys. written t (from m words n ys)) split
    ∙ ap (λ ws. written t ws) (from_next m words n x left)
    ∙ written_append t (separated m n) (words x ++ from m words (suc n) left)
    ∙ written_append (written t (separated m n)) (words x) (from m words (suc n) left))
    ∙ so_far

-- one member more of a list without anything between its members
pub list_written : {X : Type 0} (words : X → List Word) (xs : List X) (n : ℕ) (x : X) (t t1 all : List ℕ) → n < length xs → x ≡ get_or xs n x
    → t1 ≡ written t (words x) → written t (flat_map words (drop n xs)) ≡ all → written t1 (flat_map words (drop (n + 1) xs)) ≡ all
list_written words xs n x t t1 all within is more so_far =
    let left = drop (suc n) xs in
    let split : drop n xs ≡ x ∷ left = drop-cons xs n x within ∙ ap (λ y. y ∷ left) (sym is) in
    ap (λ k. written t1 (flat_map words (drop k xs))) (add-one n)
    ∙ ap (λ u. written u (flat_map words left)) more
    ∙ sym (ap (λ ys. written t (flat_map words ys)) split ∙ written_append t (words x) (flat_map words left))
    ∙ so_far

-- a file's parts, and a line feed
pub whole_written : (f : File) (t t1 t2 t3 : List ℕ) → t ≡ [] → t1 ≡ written t (flat_map proto_words f.protos) → t2 ≡ written t1 (head_words f.module)
    → t3 ≡ written t2 (block_words f.body) → t3 ++ codes "\n" ≡ canonical_text f
whole_written f t t1 t2 t3 none protos head body =
    ap (λ u. u ++ codes "\n") (body ∙ ap (λ u. written u (block_words f.body)) (head ∙ ap (λ u. written u (head_words f.module)) (protos ∙ ap (λ u. written u (flat_map proto_words f.protos)) none))
    ∙ sym (written_append [] (flat_map proto_words f.protos) (head_words f.module ++ block_words f.body)
    ∙ written_append (written [] (flat_map proto_words f.protos)) (head_words f.module) (block_words f.body)))
    ∙ written_text f
