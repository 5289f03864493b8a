-- The words that are printed of formals, heads and files spell them again.
use Rattle.std.proofs.Common.{◌≡◌, ℕ, List, [], ◌∷◌, ◌++◌, map, Option, Some, None, sym, refl, ap, ap₂, ◌∙◌, subst, append_assoc}
use Rattle.std.specs.List.{flat_map}
use Rattle.qz_syntax.specs.declared.declarations.Class.{Class}
use Rattle.qz_syntax.specs.declared.declarations.Class.TheVariants as class
use Rattle.qz_syntax.specs.declared.declarations.Dir.{Dir}
use Rattle.qz_syntax.specs.declared.declarations.Dir.TheVariants as dir
use Rattle.qz_syntax.specs.declared.files.TypeText.{TypeText}
use Rattle.qz_syntax.specs.declared.files.FileFormal.{FileFormal}
use Rattle.qz_syntax.specs.declared.files.FileProto.{FileProto}
use Rattle.qz_syntax.specs.declared.file_expressions.NameAt.{NameAt}
use Rattle.qz_syntax.specs.declared.file_statements.FileBlock.{FileBlock}
use Rattle.qz_phrases.specs.declared.words.Word.{Word}
use Rattle.qz_phrases.specs.declared.words.Word.TheVariants as word
use Rattle.qz_phrases.specs.declared.words.Sort.{Sort}
use Rattle.qz_phrases.specs.declared.words.Sort.TheVariants as sort
use Rattle.qz_phrases.specs.declared.words.Mark.TheVariants as mark
use Rattle.qz_phrases.specs.declared.words.Spot.{Spot}
use Rattle.qz_phrases.specs.Words.{first, class_mark}
use Rattle.qz_phrases.specs.Phrases.{one, many}
use Rattle.qz_reader.specs.declared.formals.DirStart.{DirStart}
use Rattle.qz_reader.specs.declared.formals.DirStart.TheVariants as way
use Rattle.qz_reader.specs.declared.formals.FormalStart.{FormalStart}
use Rattle.qz_reader.specs.declared.formals.FormalStart.TheVariants as formal
use Rattle.qz_reader.specs.declared.formals.FormalsStart.{FormalsStart}
use Rattle.qz_reader.specs.declared.formals.FormalsStart.TheVariants as formals
use Rattle.qz_reader.specs.Formals.{dir_start, formal_start, formals_start, dir_row, a_dir, directed, typed_formal, known_formal, formal_row, a_formal, typing_of, next_formal, formals_row, a_formals, a_head}
use Rattle.qz_reader.specs.Files.{a_proto, a_module, a_file}
use Rattle.qz_printer.specs.Expressions.{one as word_one, name_words}
use Rattle.qz_printer.specs.Declarations.{listed, dir_mark, formal_words}
use Rattle.qz_printer.specs.Statements.{block_words}
use Rattle.qz_printer.specs.Files.{head_words, proto_words, file_words}
use Rattle.printer_laws.specs.Offsets.{plain_name, plain_type, plain_formal, plain_proto, plain_block, IsAlike}
use Rattle.printer_laws.proofs.Keeping.{IsFine, Fine, FineWords, fine_both, Says, says_both, Free, Same, Kept, Keeps, keep_one, keep_name, SameName, keep_seq, keep_mean}
use Rattle.printer_laws.proofs.KeepingLists.{prints_are, keep_several}
use Rattle.printer_laws.proofs.PlainForms.{SameBlock}
use Rattle.printer_laws.proofs.KeepingParts.{typing_words, typing_written, typing_fine}
use Rattle.printer_laws.proofs.KeepingStatements.{keep_module_block}

spot_is : (t : Spot) (w : Word) → t.word ≡ w → t ≡ record { word = w; at = t.at }
spot_is t w e = ap (λ (u : Word). record t { word = u }) e

abbrev SameFormal : FileFormal → FileFormal → Type 0
SameFormal f g = plain_formal f ≡ plain_formal g

-- a formal that is written with its class and its type
record Written (last : Option (Class × TypeText)) (f : FileFormal) (vs more : List Spot) : Type 0 where
  value : FileFormal
  is : a_formal last value vs more
  same : SameFormal f value
  again : formal_words value ≡ formal_words f
  begins : formals.Formal ≡ formals_start (first vs)

class_formal : (c : Class) → formal.Typing ≡ formal_start (sort.Mark (class_mark c))
class_formal class.Event = refl
class_formal class.Mem = refl

class_formals : (c : Class) → formals.Formal ≡ formals_start (sort.Mark (class_mark c))
class_formals class.Event = refl
class_formals class.Mem = refl

dir_written : (d : Dir) (at : ℕ) (vs : List Spot) → a_dir d (record { word = word.Mark (dir_mark d); at = at } ∷ vs) vs
dir_written dir.In at vs = (at, refl, refl)
dir_written dir.Out at vs = (at, refl, refl)

same_formal : (c e : Class) (d : Dir) (t u : TypeText) (n m : NameAt) → c ≡ e → plain_type t ≡ plain_type u → SameName n m
    → SameFormal (record { class = c; dir = d; ty = t; name = n }) (record { class = e; dir = d; ty = u; name = m })
same_formal c e d t u n m one two three =
    ap (λ k. record { class = k; dir = d; ty = plain_type t; name = plain_name n }) one ∙ ap₂ (λ v k. record { class = e; dir = d; ty = v; name = k }) two three

-- what says its direction and its name
directed_written : (d : Dir) (n : List ℕ) (known : Class × TypeText) (vs more : List Spot) → Says vs (word.Mark (dir_mark d) ∷ word.Name n ∷ []) more
    → (at : ℕ) × directed known (record { class = known.0; dir = d; ty = known.1; name = record { name = n; at = at } }) vs more
directed_written d n known [] more says = absurd says
directed_written d n known (v ∷ []) more says = absurd says.1
directed_written d n known (v ∷ w ∷ vs) more says =
    let first_is = spot_is v (word.Mark (dir_mark d)) says.0 in
    let second : w ∷ vs ≡ record { word = word.Name n; at = w.at } ∷ more = ap₂ (λ s l. s ∷ l) (spot_is w (word.Name n) says.1.0) says.1.1 in
    let way_is : a_dir d (v ∷ w ∷ vs) (w ∷ vs) = subst (λ s. a_dir d (s ∷ w ∷ vs) (w ∷ vs)) (sym first_is) (dir_written d v.at (w ∷ vs)) in
    (w.at, ((d, record { name = n; at = w.at }), refl, (w ∷ vs, way_is, second)))

written : (last : Option (Class × TypeText)) (f : FileFormal) (vs more : List Spot) → Says vs (formal_words f) more → Written last f vs more
written last f vs more says =
    let cut = says_both vs (typing_words (f.class, f.ty)) (word.Mark (dir_mark f.dir) ∷ name_words f.name) more says in
    let t = typing_written f.class f.ty vs cut.0 cut.1 in
    let d = directed_written f.dir f.name.name t.value cut.0 more cut.2 in
    let value : FileFormal = record { class = t.value.0; dir = f.dir; ty = t.value.1; name = record { name = f.name.name; at = d.0 } } in
    let row : typed_formal value vs more = ((t.value, value), refl, (cut.0, t.is, d.1)) in
    record {
      value = value;
      is = subst (λ s. formal_row last s value vs more) (class_formal f.class ∙ ap formal_start (sym t.begins)) row;
      same = same_formal f.class t.value.0 f.dir f.ty t.value.1 f.name (record { name = f.name.name; at = d.0 }) t.same.0 t.same.1 refl;
      again = ap (λ l. l ++ word.Mark (dir_mark f.dir) ∷ name_words f.name) t.again;
      begins = class_formals f.class ∙ ap formals_start (sym t.begins);
    }

abbrev next_words : FileFormal → List Word
next_words f = word.Mark mark.Comma ∷ formal_words f

-- the formals after the first one
record MoreWritten (last : Option (Class × TypeText)) (fs : List FileFormal) (vs more : List Spot) : Type 0 where
  values : List FileFormal
  at : ℕ
  is : many next_formal typing_of (λ _. one mark.CloseParen) last values at vs more
  same : map plain_formal fs ≡ map plain_formal values
  again : flat_map next_words values ≡ flat_map next_words fs

closed : (vs more : List Spot) → Says vs (word_one mark.CloseParen) more → (at : ℕ) × one mark.CloseParen at vs more
closed [] more says = absurd says
closed (v ∷ vs) more says = (v.at, ap₂ (λ s l. s ∷ l) (spot_is v (word.Mark mark.CloseParen) says.0) says.1)

more_written : (last : Option (Class × TypeText)) (fs : List FileFormal) (vs more : List Spot) → Says vs (flat_map next_words fs ++ word_one mark.CloseParen) more → MoreWritten last fs vs more
more_written last [] vs more says = let c = closed vs more says in record { values = []; at = c.0; is = c.1; same = refl; again = refl }
more_written last (f ∷ fs) [] more says = absurd says
more_written last (f ∷ fs) (v ∷ vs) more says =
    let after : Says vs (formal_words f ++ (flat_map next_words fs ++ word_one mark.CloseParen)) more =
    subst (λ l. Says vs l more) (append_assoc (formal_words f) (flat_map next_words fs) (word_one mark.CloseParen)) says.1 in
    let cut = says_both vs (formal_words f) (flat_map next_words fs ++ word_one mark.CloseParen) more after in
    let w = written last f vs cut.0 cut.1 in
    let rest = more_written (typing_of w.value) fs cut.0 more cut.2 in
    let comma : v ∷ vs ≡ record { word = word.Mark mark.Comma; at = v.at } ∷ vs = ap (λ s. s ∷ vs) (spot_is v (word.Mark mark.Comma) says.0) in
    record {
      values = w.value ∷ rest.values;
      at = rest.at;
      is = (cut.0, ((v.at, w.value), refl, (vs, comma, w.is)), rest.is);
      same = ap₂ (λ g gs. g ∷ gs) w.same rest.same;
      again = ap₂ (λ a b. (word.Mark mark.Comma ∷ a) ++ b) w.again rest.again;
    }

abbrev formals_words : List FileFormal → List Word
formals_words fs = listed formal_words fs ++ word_one mark.CloseParen

abbrev SameFormals : List FileFormal → List FileFormal → Type 0
SameFormals fs gs = map plain_formal fs ≡ map plain_formal gs

formals_written : (fs : List FileFormal) (ws vs more : List Spot) → Says vs (formals_words fs) more → Kept Free formals_words SameFormals a_formals fs ws vs more
formals_written [] ws [] more says = absurd says
formals_written [] ws (v ∷ vs) more says =
    let c = closed (v ∷ vs) more says in
    let begins : sort.Mark mark.CloseParen ≡ first (v ∷ vs) = ap (λ (w : Word). first (record { word = w; at = v.at } ∷ vs)) (sym says.0) in
    let row : formals_row formals.Close [] (v ∷ vs) more = (c.0, refl, c.1) in
    record { value = []; is = subst (λ s. formals_row (formals_start s) [] (v ∷ vs) more) begins row; same = refl; again = refl; begins = tt }
formals_written (f ∷ fs) ws vs more says =
    let all : Says vs (formal_words f ++ (flat_map next_words fs ++ word_one mark.CloseParen)) more =
    subst (λ l. Says vs l more) (append_assoc (formal_words f) (flat_map next_words fs) (word_one mark.CloseParen)) says in
    let cut = says_both vs (formal_words f) (flat_map next_words fs ++ word_one mark.CloseParen) more all in
    let w = written None f vs cut.0 cut.1 in
    let rest = more_written (typing_of w.value) fs cut.0 more cut.2 in
    let row : formals_row formals.Formal (w.value ∷ rest.values) vs more = ((w.value, rest.values), refl, (cut.0, w.is, ((rest.values, rest.at), refl, rest.is))) in
    record {
      value = w.value ∷ rest.values;
      is = subst (λ s. formals_row s (w.value ∷ rest.values) vs more) w.begins row;
      same = ap₂ (λ g gs. g ∷ gs) w.same rest.same;
      again = ap (λ l. l ++ word_one mark.CloseParen) (ap₂ (λ a b. a ++ b) w.again rest.again);
      begins = tt;
    }

-- the words of formals are fine
abbrev FineKnown : Option (Class × TypeText) → Type 0
FineKnown None = Unit {0}
FineKnown (Some known) = FineWords (typing_words known)

used_dir : (d : Dir) → IsFine (word.Mark (dir_mark d))
used_dir dir.In = tt
used_dir dir.Out = tt

dir_fine : (s : DirStart) (d : Dir) (ws rest : List Spot) → dir_row s d ws rest → Fine ws → Fine rest
dir_fine way.In d ws rest is fine = ((keep_one {F = Free} mark.Question tt).fine is.0 ws rest is.2 fine).1
dir_fine way.Out d ws rest is fine = ((keep_one {F = Free} mark.Exclamation tt).fine is.0 ws rest is.2 fine).1
dir_fine way.None d ws rest is fine = absurd is

directed_fine : (known : Class × TypeText) (f : FileFormal) (ws rest : List Spot) → directed known f ws rest → FineWords (typing_words known) → Fine ws
    → FineWords (formal_words f) × FineWords (typing_words (f.class, f.ty)) × Fine rest
directed_fine known f ws rest is known_fine fine =
    let after = dir_fine (dir_start (first ws)) is.0.0 ws is.2.0 is.2.1 fine in
    let n = (keep_name {F = Free}).fine is.0.1 is.2.0 rest is.2.2 after in
    let whole = fine_both (typing_words known) (word.Mark (dir_mark is.0.0) ∷ name_words is.0.1) known_fine (used_dir is.0.0, n.0) in (
      subst (λ g. FineWords (formal_words g)) (sym is.1) whole,
      subst (λ (g : FileFormal). FineWords (typing_words (g.class, g.ty))) (sym is.1) known_fine,
      n.1,
    )

known_row_fine : (last : Option (Class × TypeText)) (f : FileFormal) (ws rest : List Spot) → known_formal last f ws rest → FineKnown last → Fine ws
    → FineWords (formal_words f) × FineWords (typing_words (f.class, f.ty)) × Fine rest
known_row_fine None f ws rest is known fine = absurd is
known_row_fine (Some k) f ws rest is known fine = directed_fine k f ws rest is known fine

formal_row_fine : (s : FormalStart) (last : Option (Class × TypeText)) (f : FileFormal) (ws rest : List Spot) → formal_row last s f ws rest → FineKnown last → Fine ws
    → FineWords (formal_words f) × FineWords (typing_words (f.class, f.ty)) × Fine rest
formal_row_fine formal.Dir last f ws rest is known fine = known_row_fine last f ws rest is known fine
formal_row_fine formal.Typing last f ws rest is known fine =
    let t = typing_fine is.0.0 ws is.2.0 is.2.1 fine in
    subst (λ (g : FileFormal). FineWords (formal_words g) × FineWords (typing_words (g.class, g.ty)) × Fine rest) (sym is.1) (directed_fine is.0.0 is.0.1 is.2.0 rest is.2.2 t.0 t.1)

formal_fine : (last : Option (Class × TypeText)) (f : FileFormal) (ws rest : List Spot) → a_formal last f ws rest → FineKnown last → Fine ws
    → FineWords (formal_words f) × FineWords (typing_words (f.class, f.ty)) × Fine rest
formal_fine last f ws rest is known fine = formal_row_fine (formal_start (first ws)) last f ws rest is known fine

more_fine : (last : Option (Class × TypeText)) (fs : List FileFormal) (at : ℕ) (ws rest : List Spot) → many next_formal typing_of (λ _. one mark.CloseParen) last fs at ws rest → FineKnown last → Fine ws
    → FineWords (flat_map next_words fs ++ word_one mark.CloseParen) × Fine rest
more_fine last [] at ws rest is known fine = (keep_one {F = Free} mark.CloseParen tt).fine at ws rest is fine
more_fine last (f ∷ fs) at ws rest is known fine =
    let item = is.1 in
    let comma = (keep_one {F = Free} mark.Comma tt).fine item.0.0 ws item.2.0 item.2.1 fine in
    let here : a_formal last f item.2.0 is.0 = subst (λ g. a_formal last g item.2.0 is.0) (sym item.1) item.2.2 in
    let a = formal_fine last f item.2.0 is.0 here known comma.1 in
    let b = more_fine (typing_of f) fs at is.0 rest is.2 a.1 a.2 in
    (subst FineWords (sym (append_assoc (next_words f) (flat_map next_words fs) (word_one mark.CloseParen))) (fine_both (next_words f) (flat_map next_words fs ++ word_one mark.CloseParen) (tt, a.0) b.0), b.1)

formals_row_fine : (s : FormalsStart) (fs : List FileFormal) (ws rest : List Spot) → formals_row s fs ws rest → Fine ws → FineWords (formals_words fs) × Fine rest
formals_row_fine formals.Close fs ws rest is fine =
    let a = (keep_one {F = Free} mark.CloseParen tt).fine is.0 ws rest is.2 fine in
    (subst (λ gs. FineWords (formals_words gs)) (sym is.1) a.0, a.1)
formals_row_fine formals.Formal fs ws rest is fine =
    let f = is.0.0 in
    let listing = is.2.2 in
    let a = formal_fine None f ws is.2.0 is.2.1 tt fine in
    let b = more_fine (typing_of f) listing.0.0 listing.0.1 is.2.0 rest listing.2 a.1 a.2 in
    let same : fs ≡ f ∷ listing.0.0 = is.1 ∙ ap (λ gs. f ∷ gs) listing.1 in (
      subst (λ gs. FineWords (formals_words gs)) (sym same)
          (subst FineWords (sym (append_assoc (formal_words f) (flat_map next_words listing.0.0) (word_one mark.CloseParen))) (fine_both (formal_words f) (flat_map next_words listing.0.0 ++ word_one mark.CloseParen) a.0 b.0)),
      b.1,
    )

keep_formals : {F : Sort → Sort → Type 0} → Keeps F Free formals_words SameFormals a_formals a_formals
keep_formals = record {
  to = λ fs ws rest is vs more says next. formals_written fs ws vs more says;
  fine = λ fs ws rest is fine. formals_row_fine (formals_start (first ws)) fs ws rest is fine;
}

-- heads and prototypes
abbrev SameProto : FileProto → FileProto → Type 0
SameProto p q = plain_proto p ≡ plain_proto q

keep_head : {F : Sort → Sort → Type 0} → Keeps F Same head_words SameProto a_head a_head
keep_head = keep_mean (λ p. record { name = p.1.0; formals = p.1.1.1 }) (λ p. refl) (λ p q same. ap₂ (λ n fs. record { name = n; formals = fs }) same.1.0 same.1.1.1)
    (keep_seq {G = Same} (keep_one mark.Module tt) (keep_seq {G = Same} keep_name (keep_seq {G = Free} (keep_one mark.OpenParen tt) keep_formals)))

keep_proto : {F : Sort → Sort → Type 0} → Keeps F Same proto_words SameProto a_proto a_proto
keep_proto = keep_mean (λ p. p.0) (λ p. refl) (λ p q same. same.0) (keep_seq {G = Same} keep_head (keep_one mark.Semicolon tt))

abbrev module_words : FileProto × FileBlock → List Word
module_words p = head_words p.0 ++ block_words p.1

abbrev SameModule : FileProto × FileBlock → FileProto × FileBlock → Type 0
SameModule p q = SameProto p.0 q.0 × SameBlock p.1 q.1

keep_module : (levels : ℕ) → Keeps Same Same module_words SameModule (a_module levels) (a_module levels)
keep_module levels = keep_seq {G = Same} keep_head (keep_module_block levels)

same_file : (ps qs : List FileProto) (m n : FileProto) (b c : FileBlock) → map plain_proto ps ≡ map plain_proto qs → SameProto m n → SameBlock b c
    → IsAlike (record { protos = ps; «module» = m; body = b }) (record { protos = qs; «module» = n; body = c })
same_file ps qs m n b c one two three =
    ap (λ l. record { protos = l; «module» = plain_proto m; body = plain_block b }) one ∙ ap₂ (λ p k. record { protos = map plain_proto qs; «module» = p; body = k }) two three

pub keep_file : (levels : ℕ) → Keeps Same Same file_words IsAlike (a_file levels) (a_file levels)
keep_file levels =
    keep_mean (λ p. record { protos = p.0; «module» = p.1.0; body = p.1.1 }) (λ p. sym (prints_are proto_words module_words p.0 p.1))
    (λ p q same. same_file p.0 q.0 p.1.0 q.1.0 p.1.1 q.1.1 same.0 same.1.0 same.1.1)
    (keep_several plain_proto a_proto (a_module levels) keep_proto (keep_module levels))
