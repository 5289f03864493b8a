-- What reading one token after the other gives, and what it rules out.
use Rattle.std.proofs.Common.{◌≡◌, ℕ, zero, suc, ◌+◌, ◌<◌, ◌≤◌, Bool, true, false, nat_lt, List, [], ◌∷◌, ◌++◌, drop, length, map, IsTrue, sym, refl, ap, subst, ◌∙◌, append_assoc, append-nil, arith, codes}
use Rattle.std.proofs.lemmas.List.{length-append}
use Rattle.std.specs.List.{list_all, flat_map}
use Rattle.std.specs.Str.{chars, IsUtf8, IsAscii, bytes_eq}
use Rattle.std.proofs.lemmas.Str.{encodes-chars, chars-IsAscii}
use Rattle.std.proofs.lemmas.Str.Ascii.{encodes-IsAscii, IsAscii-nil, IsAscii-cons}
use Rattle.std.proofs.lemmas.Slice.Eq.{bytes_eq-Decides}
use Rattle.qz_first.specs.declared.source.SourceStmt.{SourceStmt}
use Rattle.qz_first.specs.declared.source.SourceStmt.TheVariants as source
use Rattle.qz_first.specs.declared.reader.NoSource.{NoSource}
use Rattle.qz_first.specs.declared.reader.NoSource.TheVariants.{NotBuilt, Memory}
use Rattle.qz_first.specs.declared.reader.Start.TheVariants as start
use Rattle.qz_syntax.specs.Spelling.{is_name}
use Rattle.qz_first.specs.Grammar.{spelling, node_spelling, block_spelling, levels, node_levels, node_has_names, Fits, AllFit}
use Rattle.qz_first.specs.Reading.{word_of, OnNotBuilt, NoText, NoName, NoStart, NoStatement, NoBlock}
use Rattle.std.proofs.lemmas.Bool.Decides.{nat_tests}
use Rattle.qz_first.proofs.GrammarLemmas.{fold-Nothing, fold-Pause, fold-Emit, fold-Loop, fold-Block, by_form, begun, block_spelling-cons, one_statement}

pub drop_past : {X : Type 0} (xs : List X) (n : ℕ) → length xs ≤ n → drop n xs ≡ []
drop_past [] zero h = refl
drop_past [] (suc n) h = refl
drop_past (y ∷ ys) zero h = absurd (omega arith)
drop_past (y ∷ ys) (suc n) h = drop_past ys n (omega arith)

-- a text that tests as ASCII is
pub plain_ascii : (text : List ℕ) → IsTrue (list_all (λ c. nat_lt c 128) text) → IsAscii text
plain_ascii [] h = IsAscii-nil
plain_ascii (c ∷ cs) h = IsAscii-cons c cs (grind (arith, nat_tests)) (plain_ascii cs (grind (arith, nat_tests)))

pub plain_chars : (text : List ℕ) → IsTrue (list_all (λ c. nat_lt c 128) text) → chars text ≡ text
plain_chars text h = chars-IsAscii text (plain_ascii text h)

-- a token of another text is not this one
pub no_text : (text next : List ℕ) (upcoming rest : List (List ℕ)) → IsUtf8 next → IsTrue (list_all (λ c. nat_lt c 128) text)
    → bytes_eq next text ≡ false → upcoming ≡ chars next ∷ rest → NoText text upcoming
no_text text next upcoming rest utf8 plain differ is = record {
  none = λ (others : List (List ℕ)) (e : upcoming ≡ text ∷ others).
      let same : chars next ≡ text = cc in
      let equal : next ≡ text = sym (encodes-chars next utf8) ∙ rw same (encodes-IsAscii text (plain_ascii text plain)) in
      let yes : bytes_eq next text ≡ true = (bytes_eq-Decides next text).1 equal in
      cc;
}

-- the levels and the names of each form of statement
levels_pos : (s : SourceStmt) → 1 ≤ levels s
levels_pos = by_form (λ s. 1 ≤ levels s)
    (rw (fold-Nothing ℕ node_levels) (omega arith))
    (rw (fold-Pause ℕ node_levels) (omega arith))
    (λ name. rw (fold-Emit ℕ node_levels name) (omega arith))
    (λ body. rw (fold-Loop ℕ node_levels body) (omega arith))
    (λ parts. rw (fold-Block ℕ node_levels parts) (omega arith))

pub fits_Nothing : (level : ℕ) → level ≤ 128 → Fits level source.Nothing
fits_Nothing level low = record {
  levels = rw (fold-Nothing ℕ node_levels) (omega arith);
  names = rw (fold-Nothing Bool node_has_names) refl;
}

pub fits_Pause : (level : ℕ) → level ≤ 128 → Fits level source.Pause
fits_Pause level low = record {
  levels = rw (fold-Pause ℕ node_levels) (omega arith);
  names = rw (fold-Pause Bool node_has_names) refl;
}

pub fits_Emit : (level : ℕ) (name : List ℕ) → level ≤ 128 → IsTrue (is_name name) → Fits level (source.Emit name)
fits_Emit level name low is = record {
  levels = rw (fold-Emit ℕ node_levels name) (omega arith);
  names = rw (fold-Emit Bool node_has_names name) is;
}

pub fits_Loop : (level : ℕ) (body : SourceStmt) → level ≤ 128 → Fits (level + 1) body → Fits level (source.Loop body)
fits_Loop level body low fits = record {
  levels = rw (fold-Loop ℕ node_levels body) (omega (arith, fits.levels));
  names = rw (fold-Loop Bool node_has_names body) fits.names;
}

pub fits_Block : (level : ℕ) (parts : List SourceStmt) → level ≤ 128 → AllFit (level + 1) parts → Fits level (source.Block parts)
fits_Block level parts low fit = record {
  levels = rw (fold-Block ℕ node_levels parts) (omega (arith, fit.levels));
  names = rw (fold-Block Bool node_has_names parts) fit.names;
}

emit_fits : (level : ℕ) (name : List ℕ) → Fits level (source.Emit name) → IsTrue (is_name name)
emit_fits level name fits = rw (fold-Emit Bool node_has_names name) at (fits.names)

loop_fits : (level : ℕ) (body : SourceStmt) → Fits level (source.Loop body) → Fits (level + 1) body
loop_fits level body fits =
    let low = rw (fold-Loop ℕ node_levels body) at (fits.levels) in
    let names = rw (fold-Loop Bool node_has_names body) at (fits.names) in
    record { levels = omega (arith, low); names = names }

block_fits : (level : ℕ) (parts : List SourceStmt) → Fits level (source.Block parts) → AllFit (level + 1) parts
block_fits level parts fits =
    let low = rw (fold-Block ℕ node_levels parts) at (fits.levels) in
    let names = rw (fold-Block Bool node_has_names parts) at (fits.names) in
    record { levels = omega (arith, low); names = names }

-- why no statement comes next
pub above_level : (level : ℕ) (upcoming : List (List ℕ)) → 128 < level → NoStatement level upcoming
above_level level upcoming high = record {
  none = λ (s : SourceStmt) (rest : List (List ℕ)) (fits : Fits level s) (e : upcoming ≡ spelling s ++ rest). omega (arith, levels_pos s, fits.levels);
}

pub no_word : (level : ℕ) (upcoming : List (List ℕ)) → NoStart upcoming → NoStatement level upcoming
no_word level upcoming no_start = record {
  none = λ (s : SourceStmt) (rest : List (List ℕ)) (fits : Fits level s) (e : upcoming ≡ spelling s ++ rest).
      by_form (λ s. upcoming ≡ spelling s ++ rest → ⊥)
      (λ e. (no_start.none start.Nothing).none (codes ";" ∷ rest) (rw (fold-Nothing (List (List ℕ)) node_spelling) at e))
      (λ e. (no_start.none start.Pause).none (codes ";" ∷ rest) (rw (fold-Pause (List (List ℕ)) node_spelling) at e))
      (λ name e. (no_start.none start.Emit).none (name ∷ codes ";" ∷ rest) (rw (fold-Emit (List (List ℕ)) node_spelling name) at e))
      (λ body e. (no_start.none start.Loop).none (spelling body ++ rest) (rw (fold-Loop (List (List ℕ)) node_spelling body) at e))
      (λ parts e. (no_start.none start.Block).none (block_spelling parts ++ rest) (rw (fold-Block (List (List ℕ)) node_spelling parts) at e)) s e;
}

module _ (level : ℕ) (upcoming after : List (List ℕ)) where
  pub no_nothing : upcoming ≡ word_of start.Nothing ∷ after → NoText (codes ";") after → NoStatement level upcoming
  no_nothing is no_end = record {
    none = λ (s : SourceStmt) (rest : List (List ℕ)) (fits : Fits level s) (e : upcoming ≡ spelling s ++ rest).
        no_end.none rest (begun after rest s start.Nothing (sym is ∙ e)).1;
  }

  pub no_pause : upcoming ≡ word_of start.Pause ∷ after → NoText (codes ";") after → NoStatement level upcoming
  no_pause is no_end = record {
    none = λ (s : SourceStmt) (rest : List (List ℕ)) (fits : Fits level s) (e : upcoming ≡ spelling s ++ rest).
        no_end.none rest (begun after rest s start.Pause (sym is ∙ e)).1;
  }

  pub no_emit : upcoming ≡ word_of start.Emit ∷ after → NoName after → NoStatement level upcoming
  no_emit is no_name = record {
    none = λ (s : SourceStmt) (rest : List (List ℕ)) (fits : Fits level s) (e : upcoming ≡ spelling s ++ rest).
        let b = begun after rest s start.Emit (sym is ∙ e) in
        no_name.none b.0 (codes ";" ∷ rest) (emit_fits level b.0 (subst (Fits level) b.1 fits)) b.2;
  }

  pub no_end_of_emit : (name : List ℕ) (last : List (List ℕ)) → upcoming ≡ word_of start.Emit ∷ after → after ≡ name ∷ last → NoText (codes ";") last → NoStatement level upcoming
  no_end_of_emit name last is named no_end = record {
    none = λ (s : SourceStmt) (rest : List (List ℕ)) (fits : Fits level s) (e : upcoming ≡ spelling s ++ rest).
        let b = begun after rest s start.Emit (sym is ∙ e) in
        let f : name ∷ last ≡ b.0 ∷ codes ";" ∷ rest = sym named ∙ b.2 in
        no_end.none rest (cc f);
  }

  pub no_loop : upcoming ≡ word_of start.Loop ∷ after → NoStatement (level + 1) after → NoStatement level upcoming
  no_loop is no_body = record {
    none = λ (s : SourceStmt) (rest : List (List ℕ)) (fits : Fits level s) (e : upcoming ≡ spelling s ++ rest).
        let b = begun after rest s start.Loop (sym is ∙ e) in
        no_body.none b.0 rest (loop_fits level b.0 (subst (Fits level) b.1 fits)) b.2;
  }

  pub no_block : upcoming ≡ word_of start.Block ∷ after → NoBlock (level + 1) after → NoStatement level upcoming
  no_block is no_parts = record {
    none = λ (s : SourceStmt) (rest : List (List ℕ)) (fits : Fits level s) (e : upcoming ≡ spelling s ++ rest).
        let b = begun after rest s start.Block (sym is ∙ e) in
        no_parts.none b.0 rest (block_fits level b.0 (subst (Fits level) b.1 fits)) b.2;
  }

-- what is read in each form
module _ (upcoming after last : List (List ℕ)) where
  pub read_nothing : upcoming ≡ word_of start.Nothing ∷ after → after ≡ codes ";" ∷ last → upcoming ≡ spelling source.Nothing ++ last
  read_nothing is end = rw (fold-Nothing (List (List ℕ)) node_spelling) (is ∙ ap (λ xs. codes "nothing" ∷ xs) end)

  pub read_pause : upcoming ≡ word_of start.Pause ∷ after → after ≡ codes ";" ∷ last → upcoming ≡ spelling source.Pause ++ last
  read_pause is end = rw (fold-Pause (List (List ℕ)) node_spelling) (is ∙ ap (λ xs. codes "pause" ∷ xs) end)

  pub read_emit : (name : List ℕ) (named : List (List ℕ)) → upcoming ≡ word_of start.Emit ∷ after → after ≡ name ∷ named → named ≡ codes ";" ∷ last → upcoming ≡ spelling (source.Emit name) ++ last
  read_emit name named is at end = rw (fold-Emit (List (List ℕ)) node_spelling name) (is ∙ ap (λ xs. codes "emit" ∷ xs) (at ∙ ap (λ xs. name ∷ xs) end))

  pub read_loop : (body : SourceStmt) → upcoming ≡ word_of start.Loop ∷ after → after ≡ spelling body ++ last → upcoming ≡ spelling (source.Loop body) ++ last
  read_loop body is inner = rw (fold-Loop (List (List ℕ)) node_spelling body) (is ∙ ap (λ xs. codes "loop" ∷ xs) inner)

  pub read_block : (parts : List SourceStmt) → upcoming ≡ word_of start.Block ∷ after → after ≡ block_spelling parts ++ last → upcoming ≡ spelling (source.Block parts) ++ last
  read_block parts is inner = rw (fold-Block (List (List ℕ)) node_spelling parts) (is ∙ ap (λ xs. codes "{" ∷ xs) inner)

-- what is read leaves fewer tokens
pub spelling_pos : (s : SourceStmt) → 0 < length (spelling s)
spelling_pos = by_form (λ s. 0 < length (spelling s))
    (rw (fold-Nothing (List (List ℕ)) node_spelling) (omega arith))
    (rw (fold-Pause (List (List ℕ)) node_spelling) (omega arith))
    (λ name. rw (fold-Emit (List (List ℕ)) node_spelling name) (omega arith))
    (λ body. rw (fold-Loop (List (List ℕ)) node_spelling body) (omega arith))
    (λ parts. rw (fold-Block (List (List ℕ)) node_spelling parts) (omega arith))

pub shorter : (s : SourceStmt) (before after : List (List ℕ)) → before ≡ spelling s ++ after → length after < length before
shorter s before after e =
    let len = ap (λ (xs : List (List ℕ)). length xs) e ∙ length-append (spelling s) after in
    omega (arith, len, spelling_pos s)

-- the spellings of some statements, one after the other
abbrev pub spelled : List SourceStmt → List (List ℕ)
spelled parts = flat_map (λ part. part) (map spelling parts)

-- of a block these statements are read, and the rest of it comes next
pub record BlockSoFar (level : ℕ) (whole : List (List ℕ)) (parts : List SourceStmt) (upcoming : List (List ℕ)) : Type 0 where
  pub fit : AllFit level parts
  pub read : whole ≡ spelled parts ++ upcoming
  pub only : (others : List SourceStmt) (rest : List (List ℕ)) → AllFit level others → whole ≡ block_spelling others ++ rest
      → (more : List SourceStmt) × AllFit level more × (upcoming ≡ block_spelling more ++ rest)

pub no_parts_yet : (level : ℕ) (whole : List (List ℕ)) → level ≤ 129 → BlockSoFar level whole [] whole
no_parts_yet level whole within = record {
  fit = record { levels = omega (arith, within); names = refl };
  read = refl;
  only = λ (others : List SourceStmt) (rest : List (List ℕ)) (fit : AllFit level others) (e : whole ≡ block_spelling others ++ rest). (others, fit, e);
}

fit_more : (level : ℕ) (parts : List SourceStmt) (s : SourceStmt) → AllFit level parts → Fits level s → AllFit level (parts ++ s ∷ [])
fit_more level [] s fit fits = record { levels = omega (arith, fits.levels); names = grind (arith, nat_tests, fits.names) }
fit_more level (part ∷ parts) s fit fits =
    let here : AllFit level parts = record { levels = omega (arith, fit.levels); names = grind (arith, nat_tests, fit.names) } in
    let more = fit_more level parts s here fits in
    record { levels = omega (arith, fit.levels, more.levels); names = grind (arith, nat_tests, fit.names, more.names) }

spelled_more : (parts : List SourceStmt) (s : SourceStmt) → spelled (parts ++ s ∷ []) ≡ spelled parts ++ spelling s
spelled_more [] s = append-nil (spelling s)
spelled_more (part ∷ parts) s = ap (λ xs. spelling part ++ xs) (spelled_more parts s) ∙ sym (append_assoc (spelling part) (spelled parts) (spelling s))

tail_fits : (level : ℕ) (s : SourceStmt) (parts : List SourceStmt) → AllFit level (s ∷ parts) → AllFit level parts
tail_fits level s parts fit = record { levels = omega (arith, fit.levels); names = grind (arith, nat_tests, fit.names) }

head_fits : (level : ℕ) (s : SourceStmt) (parts : List SourceStmt) → AllFit level (s ∷ parts) → Fits level s
head_fits level s parts fit = record { levels = omega (arith, fit.levels); names = grind (arith, nat_tests, fit.names) }

module _ (level : ℕ) (whole : List (List ℕ)) (parts : List SourceStmt) (upcoming : List (List ℕ)) (so_far : BlockSoFar level whole parts upcoming) where
  pub one_part_more : (s : SourceStmt) (after : List (List ℕ)) → NoText (codes "}") upcoming → upcoming ≡ spelling s ++ after → Fits level s
      → BlockSoFar level whole (parts ++ s ∷ []) after
  one_part_more s after no_end is fits = record {
    fit = fit_more level parts s so_far.fit fits;
    read = so_far.read ∙ ap (λ xs. spelled parts ++ xs) is ∙ sym (append_assoc (spelled parts) (spelling s) after) ∙ ap (λ xs. xs ++ after) (sym (spelled_more parts s));
    only = λ (others : List SourceStmt) (rest : List (List ℕ)) (fit : AllFit level others) (e : whole ≡ block_spelling others ++ rest).
        let before = so_far.only others rest fit e in
        elim (before.0) as (λ more. AllFit level more → upcoming ≡ block_spelling more ++ rest → (later : List SourceStmt) × AllFit level later × (after ≡ block_spelling later ++ rest)) [
          | [] ↦ λ fit e. absurd (no_end.none rest e)
          | other ∷ more ↦ λ fit e.
              let same = one_statement s other after (block_spelling more ++ rest) (sym is ∙ e ∙ block_spelling-cons other more rest) in
              (more, tail_fits level other more fit, same.1)
        ] before.1 before.2;
  }

  pub no_part : NoText (codes "}") upcoming → NoStatement level upcoming → NoBlock level whole
  no_part no_end no_statement = record {
    none = λ (others : List SourceStmt) (rest : List (List ℕ)) (fit : AllFit level others) (e : whole ≡ block_spelling others ++ rest).
        let before = so_far.only others rest fit e in
        elim (before.0) as (λ more. AllFit level more → upcoming ≡ block_spelling more ++ rest → ⊥) [
          | [] ↦ λ fit e. no_end.none rest e
          | other ∷ more ↦ λ fit e. no_statement.none other (block_spelling more ++ rest) (head_fits level other more fit) (e ∙ block_spelling-cons other more rest)
        ] before.1 before.2;
  }

  pub block_read : (after : List (List ℕ)) → upcoming ≡ codes "}" ∷ after → whole ≡ block_spelling parts ++ after
  block_read after end = so_far.read ∙ ap (λ xs. spelled parts ++ xs) end ∙ sym (append_assoc (spelled parts) (codes "}" ∷ []) after)

-- what one fact of a fault rules out, another does
pub on_not_built : {P Q : Type 0} (fault : NoSource) → (P → Q) → OnNotBuilt fault P → OnNotBuilt fault Q
on_not_built NotBuilt f fact = f fact
on_not_built Memory f fact = tt

-- texts of the same characters are one
pub same_chars : (text other : List ℕ) → IsUtf8 text → IsUtf8 other → chars text ≡ chars other → text ≡ other
same_chars text other utf8 utf8_other e = sym (encodes-chars text utf8) ∙ rw e (encodes-chars other utf8_other)
