-- The prototypes of a file, and its module.
use Rattle.std.proofs.Common.{◌≡◌, ℕ, ◌≤◌, ◌⊎◌, inl, inr, true, false, IsTrue, List, [], ◌∷◌, ◌++◌, max, Err, drop, sym, refl, ap, subst, ◌∙◌, append_assoc, arith}
use Rattle.qz_syntax.specs.declared.files.FileProto.{FileProto}
use Rattle.qz_syntax.specs.declared.file_statements.FileBlock.{FileBlock}
use Rattle.qz_phrases.specs.declared.words.Spot.{Spot}
use Rattle.qz_phrases.specs.declared.words.Word.TheVariants as word
use Rattle.qz_phrases.specs.declared.words.Sort.{Sort}
use Rattle.qz_phrases.specs.declared.words.Sort.TheVariants as sort
use Rattle.qz_phrases.specs.declared.words.Mark.TheVariants as mark
use Rattle.qz_phrases.specs.declared.cursor.Cursor.{Cursor}
use Rattle.qz_phrases.specs.declared.cursor.Fault.{Fault}
use Rattle.qz_phrases.specs.declared.cursor.Fault.TheVariants.{Parse, Deep, Memory}
use Rattle.qz_phrases.specs.Words.{first, closes}
use Rattle.qz_phrases.specs.Phrases.{Kind, one}
use Rattle.qz_phrases.specs.Reading.{upcoming, Agrees, Moves, May, ReadsIt, ReadsSome, Begins, Rules, Fails, Reads}
use Rattle.qz_phrases.proofs.Ahead.{agrees_before, agrees_here, moves_on}
use Rattle.qz_phrases.proofs.Combining.{Fill, always, then, fill_then, fill_meaning, first_of, meaning_reads, meaning_fails, seq_first, seq_second, seq_some}
use Rattle.qz_phrases.proofs.Fills.{mark_fill}
use Rattle.qz_phrases.proofs.Lists.{row_kind, ListSoFar, none_yet, one_more, ended_some, item_fails, end_fails, end_fill}
use Rattle.qz_reader.specs.Statements.{a_block, a_stmt}
use Rattle.qz_reader.specs.Formals.{a_head}
use Rattle.qz_reader.specs.Files.{opens, a_proto, a_module, a_file}
use Rattle.qz_reader.proofs.StatementFills.{semicolon, brace, decls_fill, lists_fill}

abbrev pub block_fill : {room : ℕ} → Fill (λ levels. a_block (a_stmt levels)) room
block_fill = fill_meaning (λ p. record { decls = p.1.0; lists = p.1.1 }) (fill_then (mark_fill mark.OpenBrace) (fill_then decls_fill lists_fill (λ words h. refl)) (λ words h. refl))

-- `module x ( ) { }`
pub head_stands : (words : List Spot) → a_head (record { name = record { name = []; at = 0 }; formals = [] })
    (record { word = word.Mark mark.Module; at = 0 } ∷ record { word = word.Name []; at = 0 } ∷ record { word = word.Mark mark.OpenParen; at = 0 } ∷ record { word = word.Mark mark.CloseParen; at = 0 } ∷ words) words
head_stands words = (
  (0, (record { name = []; at = 0 }, (0, []))),
  refl,
  (
    record { word = word.Name []; at = 0 } ∷ record { word = word.Mark mark.OpenParen; at = 0 } ∷ record { word = word.Mark mark.CloseParen; at = 0 } ∷ words,
    refl,
    (
      record { word = word.Mark mark.OpenParen; at = 0 } ∷ record { word = word.Mark mark.CloseParen; at = 0 } ∷ words,
      refl,
      (record { word = word.Mark mark.CloseParen; at = 0 } ∷ words, refl, (0, refl, refl)),
    ),
  ),
)

abbrev pub module_fill : {room : ℕ} → Fill a_module room
module_fill = record {
  more = record { word = word.Mark mark.Module; at = 0 } ∷ record { word = word.Name []; at = 0 } ∷ record { word = word.Mark mark.OpenParen; at = 0 } ∷ record { word = word.Mark mark.CloseParen; at = 0 } ∷ record { word = word.Mark mark.OpenBrace; at = 0 } ∷ brace ∷ [];
  phrase = (record { name = record { name = []; at = 0 }; formals = [] }, record { decls = []; lists = [] ∷ [] });
  stands = λ levels low words h. (record { word = word.Mark mark.OpenBrace; at = 0 } ∷ brace ∷ words, head_stands (record { word = word.Mark mark.OpenBrace; at = 0 } ∷ brace ∷ words), (block_fill {room = 0}).stands levels (omega arith) words h);
}

-- it alone
abbrev pub file_fill : {room : ℕ} → Fill a_file room
file_fill = record {
  more = record { word = word.Mark mark.Module; at = 0 } ∷ record { word = word.Name []; at = 0 } ∷ record { word = word.Mark mark.OpenParen; at = 0 } ∷ record { word = word.Mark mark.CloseParen; at = 0 } ∷ record { word = word.Mark mark.OpenBrace; at = 0 } ∷ brace ∷ [];
  phrase = record { protos = []; «module» = record { name = record { name = []; at = 0 }; formals = [] }; body = record { decls = []; lists = [] ∷ [] } };
  stands = λ levels low words h. (([], (record { name = record { name = []; at = 0 }; formals = [] }, record { decls = []; lists = [] ∷ [] })), refl, (module_fill {room = 0}).stands levels (omega arith) words h);
}

-- the second phrase begins as the words that come
second_begun : {A B : Type 0} (K : Kind A) (L : Kind B) (room low top : ℕ) (s0 s1 : Cursor) (x : A) (front : List Spot) (k : ReadsIt K room s0 s1 x) (b : Begins L low front)
    → ((words : List Spot) → IsTrue (closes (first words)) → May (upcoming s1) (front ++ (b.more ++ words))) → room ≤ top → low ≤ top → Begins (then K L) top (k.front ++ front)
second_begun K L room low top s0 s1 x front k b may k_low l_low = record {
  more = b.more;
  phrase = (x, b.phrase);
  stands = λ levels enough words h. (
    front ++ (b.more ++ words),
    subst (λ ws. K levels x ws (front ++ (b.more ++ words))) (sym (append_assoc k.front front (b.more ++ words))) (k.stands levels (omega (arith, enough, k_low)) (front ++ (b.more ++ words)) (may words h)),
    b.stands levels (omega (arith, enough, l_low)) words h,
  );
}

seq_next : {A B : Type 0} {K : Kind A} {L : Kind B} {room : ℕ} {s0 s1 s2 : Cursor} {x : A} {why : Fault} → (l : Fill L room) → ((words : List Spot) → IsTrue (closes (first words)) → May (upcoming s1) (l.more ++ words)) → ReadsIt K room s0 s1 x → Fails L room s1 s2 why → Fails (then K L) room s0 s2 why
seq_next {K = K} {L} {room} {s0} {s1} {s2} {x} {why} fill may k l = record {
  moves = moves_on s0 s1 s2 k.moves l.moves;
  front = k.front ++ l.front;
  read = k.read ∙ ap (λ ws. k.front ++ ws) l.read ∙ sym (append_assoc k.front l.front (upcoming s2));
  none = λ others agrees levels rules p rest h.
      let r = k.only others (agrees_before s1 s2 others l.moves agrees) levels p.0 h.0 h.1 in
      l.none others agrees levels rules p.1 rest (subst (λ ws. L levels p.1 ws rest) r.1 h.2);
  begins = inl (begun l.front l.read l.begins);
  deeper = λ e. let d = l.deeper e in (
    d.0,
    d.1,
    d.2,
    max room d.3,
    subst (λ ws. Begins (then K L) (max room d.3) ws) (sym (append_assoc k.front l.front (d.0 ∷ [])))
        (second_begun K L room d.3 (max room d.3) s0 s1 x (l.front ++ d.0 ∷ []) k d.4
        (λ words h. inr (first_of l.front (d.4.more ++ words) d.1 d.0 ∙ ap (λ ws. first (l.front ++ ws)) (sym d.2) ∙ ap first (sym l.read))) (omega arith) (omega arith)),
  );
}
  where
    begun : (front : List Spot) → upcoming s1 ≡ front ++ upcoming s2 → Begins L room front ⊎ (front ≡ []) → Begins (then K L) room (k.front ++ front)
    begun [] read begins = second_begun K L room room room s0 s1 x [] k (record { more = fill.more; phrase = fill.phrase; stands = fill.stands }) may (omega arith) (omega arith)
    begun (s ∷ front) read (inl b) = second_begun K L room room room s0 s1 x (s ∷ front) k b (λ words h. inr (sym (ap first read))) (omega arith) (omega arith)
    begun (s ∷ front) read (inr e) = absurd (cc (e))

brace_first : (w : Sort) → opens w ≡ true → sort.Mark mark.OpenBrace ≡ w
brace_first (sort.Mark mark.OpenBrace) is = refl
brace_first w is = absurd (cc (is))

abbrev item : Unit {0} → Kind FileProto
item s = always a_proto

abbrev next : FileProto → Unit {0}
next p = tt

abbrev end : Unit {0} → Kind (FileProto × FileBlock)
end s = a_module

abbrev pub FileSoFar : ℕ → Cursor → List FileProto → Cursor → Type 0
FileSoFar room start ps now = ListSoFar item next end room start tt ps tt now

abbrev rest_file : {room : ℕ} → (s : Unit {0}) → Fill (row_kind item next end s) room
rest_file = end_fill {item = item} {next = next} {end = end} (λ s. module_fill)

pub no_protos : (room : ℕ) (start : Cursor) → FileSoFar room start [] start
no_protos room start = none_yet item next end room start tt

-- after a head and another word than `{` it is no module
no_module : (room : ℕ) (now mid after : Cursor) (h : FileProto) → ReadsSome (always a_head) room now mid h → Moves mid after → opens (first (upcoming mid)) ≡ false
    → (others : List Spot) → Agrees after others → (levels : ℕ) (m : FileProto × FileBlock) (rest : List Spot) → a_module levels m (drop now.read others) rest → ⊥
no_module room now mid after h k moves is others agrees levels m rest r =
    let early = agrees_before mid after others moves agrees in
    let o = k.it.only others early levels m.0 r.0 r.1 in
    let e = ap opens (ap first (sym r.2.2.1) ∙ ap first o.1 ∙ agrees_here mid others early) ∙ is in
    cc (e)

-- after a head and `{` it is no prototype
no_proto : (room : ℕ) (now mid after : Cursor) (h : FileProto) → ReadsSome (always a_head) room now mid h → Moves mid after → opens (first (upcoming mid)) ≡ true
    → (others : List Spot) → Agrees after others → (levels : ℕ) (p : FileProto) (rest : List Spot) → a_proto p (drop now.read others) rest → ⊥
no_proto room now mid after h k moves is others agrees levels p rest r =
    let early = agrees_before mid after others moves agrees in
    let o = k.it.only others early levels r.0.0 r.2.0 r.2.1 in
    let e = ap opens (ap first (sym r.2.2) ∙ ap first o.1 ∙ agrees_here mid others early) ∙ is in
    cc (e)

pub protos_more : (room : ℕ) (start now mid after : Cursor) (ps : List FileProto) (h : FileProto) (at : ℕ) → FileSoFar room start ps now → ReadsSome (always a_head) room now mid h → opens (first (upcoming mid)) ≡ false → ReadsSome (always (one mark.Semicolon)) room mid after at
    → FileSoFar room start (ps ++ h ∷ []) after
protos_more room start now mid after ps h at so_far k is semi = one_more item next end room start tt ps tt now so_far after h (no_module room now mid after h k semi.it.moves is) (meaning_reads (λ p. p.0) (seq_some k semi.it))

pub protos_onward : (room : ℕ) (now mid after : Cursor) (h : FileProto) (at : ℕ) → ReadsSome (always a_head) room now mid h → ReadsSome (always (one mark.Semicolon)) room mid after at → ReadsSome (always a_proto) room now after h
protos_onward room now mid after h at k semi = meaning_reads (λ p. p.0) (seq_some k semi.it)

unheaded : (room : ℕ) (start now after : Cursor) (ps : List FileProto) (why : Fault) → FileSoFar room start ps now → Rules why room 0 → Fails (always a_head) room now after why → Fails a_file room start after why
unheaded room start now after ps why so_far rules f = meaning_fails (λ p. record { protos = p.0; «module» = p.1.0; body = p.1.1 })
    (item_fails item next end room start tt ps tt now so_far rest_file (λ s words h. refl) after why (λ others agrees levels m rest r. f.none others agrees 0 rules m.0 r.0 r.1)
    (meaning_fails (λ p. p.0) (seq_first semicolon (λ words h. refl) f)))

pub head_fails : (room : ℕ) (start now after : Cursor) (ps : List FileProto) (why : Fault) → FileSoFar room start ps now → Reads (always a_head) room now after (Err why) → Reads a_file room start after (Err why)
head_fails room start now after ps Parse so_far f = unheaded room start now after ps Parse so_far tt f
head_fails room start now after ps Deep so_far f = unheaded room start now after ps Deep so_far (omega arith) f
head_fails room start now after ps Memory so_far f = tt

pub semicolon_fails : (room : ℕ) (start now mid after : Cursor) (ps : List FileProto) (h : FileProto) (why : Fault) → FileSoFar room start ps now → ReadsSome (always a_head) room now mid h → opens (first (upcoming mid)) ≡ false → Fails (always (one mark.Semicolon)) room mid after why
    → Fails a_file room start after why
semicolon_fails room start now mid after ps h why so_far k is f = meaning_fails (λ p. record { protos = p.0; «module» = p.1.0; body = p.1.1 })
    (item_fails item next end room start tt ps tt now so_far rest_file (λ s words h. refl) after why (no_module room now mid after h k f.moves is) (meaning_fails (λ p. p.0) (seq_second semicolon (λ words h. refl) k.it f)))

pub body_fails : (room : ℕ) (start now mid after : Cursor) (ps : List FileProto) (h : FileProto) (why : Fault) → FileSoFar room start ps now → ReadsSome (always a_head) room now mid h → opens (first (upcoming mid)) ≡ true → Fails (λ levels. a_block (a_stmt levels)) room mid after why
    → Fails a_file room start after why
body_fails room start now mid after ps h why so_far k is f = meaning_fails (λ p. record { protos = p.0; «module» = p.1.0; body = p.1.1 })
    (end_fails item next end room start tt ps tt now so_far rest_file (λ s words h. refl) after why (no_proto room now mid after h k f.moves is) (seq_next block_fill (λ words h. inr (brace_first (first (upcoming mid)) is)) k.it f))

pub file_ends : (room : ℕ) (start now mid after : Cursor) (ps : List FileProto) (h : FileProto) (b : FileBlock) → FileSoFar room start ps now → ReadsSome (always a_head) room now mid h → opens (first (upcoming mid)) ≡ true → ReadsSome (λ levels. a_block (a_stmt levels)) room mid after b
    → ReadsSome a_file room start after (record { protos = ps; «module» = h; body = b })
file_ends room start now mid after ps h b so_far k is body = meaning_reads (λ p. record { protos = p.0; «module» = p.1.0; body = p.1.1 })
    (ended_some item next end room start tt ps tt now so_far after (h, b) (no_proto room now mid after h k body.it.moves is) (seq_some k body.it))
