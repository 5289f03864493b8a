-- A text is spelled by at most one tree.
use Rattle.std.proofs.Common.{◌≡◌, ℕ, true, false, List, [], ◌∷◌, ◌++◌, map, codes, append_assoc, sym, refl, ap, ap₂, subst, ◌∙◌}
use Rattle.std.specs.Str.{bytes_eq}
use Rattle.std.proofs.lemmas.Bool.{false≢true}
use Rattle.std.proofs.lemmas.Slice.Eq.{bytes_eq-Decides}
use Rattle.qz_first.specs.declared.source.SourceStmt.{SourceStmt, map-SourceStmt, roll-SourceStmt}
use Rattle.qz_first.specs.declared.source.SourceStmt.TheVariants as source
use Rattle.qz_first.specs.declared.source.SourceStmt.TheOpen.{SourceStmt-F}
use Rattle.qz_first.specs.declared.source.SourceStmt.TheFolds.{fold-SourceStmt, fold-roll-SourceStmt, ind-SourceStmt}
use Rattle.qz_first.specs.declared.reader.Start.{Start}
use Rattle.qz_first.specs.declared.reader.Start.TheVariants as start
use Rattle.qz_first.specs.Grammar.{spelling, node_spelling, block_spelling}
use Rattle.qz_first.specs.Reading.{word_of}

-- what a fold gives at each form of statement
module _ (A : Type 0) (step : SourceStmt-F A → A) where
  pub fold-Nothing : fold-SourceStmt A step source.Nothing ≡ step SourceStmt-F.Nothing
  fold-Nothing = ap (fold-SourceStmt A step) (sym source.rolls-Nothing) ∙ fold-roll-SourceStmt A step SourceStmt-F.Nothing

  pub fold-Pause : fold-SourceStmt A step source.Pause ≡ step SourceStmt-F.Pause
  fold-Pause = ap (fold-SourceStmt A step) (sym source.rolls-Pause) ∙ fold-roll-SourceStmt A step SourceStmt-F.Pause

  pub fold-Emit : (name : List ℕ) → fold-SourceStmt A step (source.Emit name) ≡ step (SourceStmt-F.Emit name)
  fold-Emit name = ap (fold-SourceStmt A step) (sym (source.rolls-Emit name)) ∙ fold-roll-SourceStmt A step (SourceStmt-F.Emit name)

  pub fold-Loop : (body : SourceStmt) → fold-SourceStmt A step (source.Loop body) ≡ step (SourceStmt-F.Loop (fold-SourceStmt A step body))
  fold-Loop body = ap (fold-SourceStmt A step) (sym (source.rolls-Loop body)) ∙ fold-roll-SourceStmt A step (SourceStmt-F.Loop body)

  pub fold-Block : (parts : List SourceStmt) → fold-SourceStmt A step (source.Block parts) ≡ step (SourceStmt-F.Block (map (fold-SourceStmt A step) parts))
  fold-Block parts = ap (fold-SourceStmt A step) (sym (source.rolls-Block parts)) ∙ fold-roll-SourceStmt A step (SourceStmt-F.Block parts)

-- what holds of each form holds of each statement
module _ (P : SourceStmt → Type 0) (at_nothing : P source.Nothing) (at_pause : P source.Pause) (at_emit : (name : List ℕ) → P (source.Emit name))
    (at_loop : (body : SourceStmt) → P (source.Loop body)) (at_block : (parts : List SourceStmt) → P (source.Block parts)) where
  of_layer : (node : SourceStmt-F SourceStmt) → P (roll-SourceStmt node)
  of_layer SourceStmt-F.Nothing = subst P (sym source.rolls-Nothing) at_nothing
  of_layer SourceStmt-F.Pause = subst P (sym source.rolls-Pause) at_pause
  of_layer (SourceStmt-F.Emit name) = subst P (sym (source.rolls-Emit name)) (at_emit name)
  of_layer (SourceStmt-F.Loop body) = subst P (sym (source.rolls-Loop body)) (at_loop body)
  of_layer (SourceStmt-F.Block parts) = subst P (sym (source.rolls-Block parts)) (at_block parts)

  pub by_form : (s : SourceStmt) → P s
  by_form = ind-SourceStmt P (λ node claims is. of_layer node)

-- two texts that differ begin different lists
pub differ : (text other : List ℕ) (x y : List (List ℕ)) → bytes_eq text other ≡ false → text ∷ x ≡ other ∷ y → ⊥
differ text other x y apart e =
    let same : text ≡ other = cc in
    let yes : bytes_eq text other ≡ true = (bytes_eq-Decides text other).1 same in
    false≢true (sym apart ∙ yes)

-- what a statement is that begins with a word and is followed by the rest
abbrev pub IsBegun : Start → SourceStmt → List (List ℕ) → List (List ℕ) → Type 0
IsBegun start.Nothing s after rest = (s ≡ source.Nothing) × (after ≡ codes ";" ∷ rest)
IsBegun start.Pause s after rest = (s ≡ source.Pause) × (after ≡ codes ";" ∷ rest)
IsBegun start.Emit s after rest = (name : List ℕ) × (s ≡ source.Emit name) × (after ≡ name ∷ codes ";" ∷ rest)
IsBegun start.Loop s after rest = (body : SourceStmt) × (s ≡ source.Loop body) × (after ≡ spelling body ++ rest)
IsBegun start.Block s after rest = (parts : List SourceStmt) × (s ≡ source.Block parts) × (after ≡ block_spelling parts ++ rest)

module _ (after rest : List (List ℕ)) where
  abbrev Begins : Start → SourceStmt → Type 0
  Begins word s = word_of word ∷ after ≡ spelling s ++ rest → IsBegun word s after rest

  begun_nothing : (word : Start) → Begins word source.Nothing
  begun_nothing start.Nothing e = let f = rw (fold-Nothing (List (List ℕ)) node_spelling) at e in (refl, cc)
  begun_nothing start.Pause e = let f = rw (fold-Nothing (List (List ℕ)) node_spelling) at e in absurd (differ (codes "pause") (codes "nothing") after (codes ";" ∷ rest) refl f)
  begun_nothing start.Emit e = let f = rw (fold-Nothing (List (List ℕ)) node_spelling) at e in absurd (differ (codes "emit") (codes "nothing") after (codes ";" ∷ rest) refl f)
  begun_nothing start.Loop e = let f = rw (fold-Nothing (List (List ℕ)) node_spelling) at e in absurd (differ (codes "loop") (codes "nothing") after (codes ";" ∷ rest) refl f)
  begun_nothing start.Block e = let f = rw (fold-Nothing (List (List ℕ)) node_spelling) at e in absurd (differ (codes "{") (codes "nothing") after (codes ";" ∷ rest) refl f)

  begun_pause : (word : Start) → Begins word source.Pause
  begun_pause start.Nothing e = let f = rw (fold-Pause (List (List ℕ)) node_spelling) at e in absurd (differ (codes "nothing") (codes "pause") after (codes ";" ∷ rest) refl f)
  begun_pause start.Pause e = let f = rw (fold-Pause (List (List ℕ)) node_spelling) at e in (refl, cc)
  begun_pause start.Emit e = let f = rw (fold-Pause (List (List ℕ)) node_spelling) at e in absurd (differ (codes "emit") (codes "pause") after (codes ";" ∷ rest) refl f)
  begun_pause start.Loop e = let f = rw (fold-Pause (List (List ℕ)) node_spelling) at e in absurd (differ (codes "loop") (codes "pause") after (codes ";" ∷ rest) refl f)
  begun_pause start.Block e = let f = rw (fold-Pause (List (List ℕ)) node_spelling) at e in absurd (differ (codes "{") (codes "pause") after (codes ";" ∷ rest) refl f)

  begun_emit : (name : List ℕ) → (word : Start) → Begins word (source.Emit name)
  begun_emit name start.Nothing e = let f = rw (fold-Emit (List (List ℕ)) node_spelling name) at e in absurd (differ (codes "nothing") (codes "emit") after (name ∷ codes ";" ∷ rest) refl f)
  begun_emit name start.Pause e = let f = rw (fold-Emit (List (List ℕ)) node_spelling name) at e in absurd (differ (codes "pause") (codes "emit") after (name ∷ codes ";" ∷ rest) refl f)
  begun_emit name start.Emit e = let f = rw (fold-Emit (List (List ℕ)) node_spelling name) at e in (name, refl, cc)
  begun_emit name start.Loop e = let f = rw (fold-Emit (List (List ℕ)) node_spelling name) at e in absurd (differ (codes "loop") (codes "emit") after (name ∷ codes ";" ∷ rest) refl f)
  begun_emit name start.Block e = let f = rw (fold-Emit (List (List ℕ)) node_spelling name) at e in absurd (differ (codes "{") (codes "emit") after (name ∷ codes ";" ∷ rest) refl f)

  begun_loop : (body : SourceStmt) → (word : Start) → Begins word (source.Loop body)
  begun_loop body start.Nothing e = let f = rw (fold-Loop (List (List ℕ)) node_spelling body) at e in absurd (differ (codes "nothing") (codes "loop") after (spelling body ++ rest) refl f)
  begun_loop body start.Pause e = let f = rw (fold-Loop (List (List ℕ)) node_spelling body) at e in absurd (differ (codes "pause") (codes "loop") after (spelling body ++ rest) refl f)
  begun_loop body start.Emit e = let f = rw (fold-Loop (List (List ℕ)) node_spelling body) at e in absurd (differ (codes "emit") (codes "loop") after (spelling body ++ rest) refl f)
  begun_loop body start.Loop e = let f = rw (fold-Loop (List (List ℕ)) node_spelling body) at e in (body, refl, cc)
  begun_loop body start.Block e = let f = rw (fold-Loop (List (List ℕ)) node_spelling body) at e in absurd (differ (codes "{") (codes "loop") after (spelling body ++ rest) refl f)

  begun_block : (parts : List SourceStmt) → (word : Start) → Begins word (source.Block parts)
  begun_block parts start.Nothing e = let f = rw (fold-Block (List (List ℕ)) node_spelling parts) at e in absurd (differ (codes "nothing") (codes "{") after (block_spelling parts ++ rest) refl f)
  begun_block parts start.Pause e = let f = rw (fold-Block (List (List ℕ)) node_spelling parts) at e in absurd (differ (codes "pause") (codes "{") after (block_spelling parts ++ rest) refl f)
  begun_block parts start.Emit e = let f = rw (fold-Block (List (List ℕ)) node_spelling parts) at e in absurd (differ (codes "emit") (codes "{") after (block_spelling parts ++ rest) refl f)
  begun_block parts start.Loop e = let f = rw (fold-Block (List (List ℕ)) node_spelling parts) at e in absurd (differ (codes "loop") (codes "{") after (block_spelling parts ++ rest) refl f)
  begun_block parts start.Block e = let f = rw (fold-Block (List (List ℕ)) node_spelling parts) at e in (parts, refl, cc)

  pub begun : (s : SourceStmt) (word : Start) → word_of word ∷ after ≡ spelling s ++ rest → IsBegun word s after rest
  begun s word = by_form (λ s. Begins word s) (begun_nothing word) (begun_pause word) (λ name. begun_emit name word)
      (λ body. begun_loop body word) (λ parts. begun_block parts word) s

-- no statement begins with a closing brace
pub no_brace : (s : SourceStmt) (after rest : List (List ℕ)) → codes "}" ∷ after ≡ spelling s ++ rest → ⊥
no_brace s after rest = by_form (λ s. codes "}" ∷ after ≡ spelling s ++ rest → ⊥)
    (λ e. let f = rw (fold-Nothing (List (List ℕ)) node_spelling) at e in differ (codes "}") (codes "nothing") after (codes ";" ∷ rest) refl f)
    (λ e. let f = rw (fold-Pause (List (List ℕ)) node_spelling) at e in differ (codes "}") (codes "pause") after (codes ";" ∷ rest) refl f)
    (λ name e. let f = rw (fold-Emit (List (List ℕ)) node_spelling name) at e in differ (codes "}") (codes "emit") after (name ∷ codes ";" ∷ rest) refl f)
    (λ body e. let f = rw (fold-Loop (List (List ℕ)) node_spelling body) at e in differ (codes "}") (codes "loop") after (spelling body ++ rest) refl f)
    (λ parts e. let f = rw (fold-Block (List (List ℕ)) node_spelling parts) at e in differ (codes "}") (codes "{") after (block_spelling parts ++ rest) refl f) s

-- the spelling of a block is that of its first statement and then that of the others
pub block_spelling-cons : (s : SourceStmt) (parts : List SourceStmt) (rest : List (List ℕ))
    → block_spelling (s ∷ parts) ++ rest ≡ spelling s ++ (block_spelling parts ++ rest)
block_spelling-cons s parts rest = simp append_assoc

-- what is spelled so is this statement, whatever follows
abbrev IsOne : SourceStmt → Type 0
IsOne s = (other : SourceStmt) (r q : List (List ℕ)) → spelling s ++ r ≡ spelling other ++ q → (s ≡ other) × (r ≡ q)

abbrev One : Type 0
One = (s : SourceStmt) × IsOne s

one_block : (parts : List One) (others : List SourceStmt) (r q : List (List ℕ))
    → block_spelling (map (λ (one : One). one.0) parts) ++ r ≡ block_spelling others ++ q → (map (λ (one : One). one.0) parts ≡ others) × (r ≡ q)
one_block [] [] r q e = (refl, cc)
one_block [] (other ∷ others) r q e = absurd (no_brace other r (block_spelling others ++ q) (e ∙ block_spelling-cons other others q))
one_block (one ∷ parts) [] r q e =
    absurd (no_brace one.0 q (block_spelling (map (λ (one : One). one.0) parts) ++ r) (sym e ∙ block_spelling-cons one.0 (map (λ (one : One). one.0) parts) r))
one_block (one ∷ parts) (other ∷ others) r q e =
    let first = one.1 other (block_spelling (map (λ (one : One). one.0) parts) ++ r) (block_spelling others ++ q)
    (sym (block_spelling-cons one.0 (map (λ (one : One). one.0) parts) r) ∙ e ∙ block_spelling-cons other others q) in
    let later = one_block parts others r q first.1 in
    (ap₂ (λ x xs. x ∷ xs) first.0 later.0, later.1)

one_layer : (node : SourceStmt-F One) → IsOne (roll-SourceStmt (map-SourceStmt One SourceStmt (λ one. one.0) node))
one_layer SourceStmt-F.Nothing = subst IsOne (sym source.rolls-Nothing)
    (λ other r q e. let b = begun (codes ";" ∷ r) q other start.Nothing (sym (ap (λ xs. xs ++ r) (fold-Nothing (List (List ℕ)) node_spelling)) ∙ e) in
    (sym b.0, cc (b.1)))
one_layer SourceStmt-F.Pause = subst IsOne (sym source.rolls-Pause)
    (λ other r q e. let b = begun (codes ";" ∷ r) q other start.Pause (sym (ap (λ xs. xs ++ r) (fold-Pause (List (List ℕ)) node_spelling)) ∙ e) in
    (sym b.0, cc (b.1)))
one_layer (SourceStmt-F.Emit name) = subst IsOne (sym (source.rolls-Emit name))
    (λ other r q e. let b = begun (name ∷ codes ";" ∷ r) q other start.Emit (sym (ap (λ xs. xs ++ r) (fold-Emit (List (List ℕ)) node_spelling name)) ∙ e) in
    let same : name ≡ b.0 = cc (b.2) in
    (ap (λ n. source.Emit n) same ∙ sym b.1, cc (b.2)))
one_layer (SourceStmt-F.Loop body) = subst IsOne (sym (source.rolls-Loop body.0))
    (λ other r q e. let b = begun (spelling body.0 ++ r) q other start.Loop (sym (ap (λ xs. xs ++ r) (fold-Loop (List (List ℕ)) node_spelling body.0)) ∙ e) in
    let inner = body.1 b.0 r q b.2 in
    (ap (λ n. source.Loop n) inner.0 ∙ sym b.1, inner.1))
one_layer (SourceStmt-F.Block parts) =
    let bare = map (λ (one : One). one.0) parts in
    subst IsOne (sym (source.rolls-Block bare))
    (λ other r q e. let b = begun (block_spelling bare ++ r) q other start.Block (sym (ap (λ xs. xs ++ r) (fold-Block (List (List ℕ)) node_spelling bare)) ∙ e) in
    let inner = one_block parts b.0 r q b.2 in
    (ap (λ n. source.Block n) inner.0 ∙ sym b.1, inner.1))

-- a text begins with at most one statement, and what follows is determined
pub one_statement : (s other : SourceStmt) (r q : List (List ℕ)) → spelling s ++ r ≡ spelling other ++ q → (s ≡ other) × (r ≡ q)
one_statement = ind-SourceStmt IsOne (λ node claims is. subst (λ x. IsOne (roll-SourceStmt x)) is (one_layer claims))

-- a text begins with at most one block, and what follows is determined
pub one_block_of : (parts others : List SourceStmt) (r q : List (List ℕ)) → block_spelling parts ++ r ≡ block_spelling others ++ q → (parts ≡ others) × (r ≡ q)
one_block_of [] [] r q e = (refl, cc)
one_block_of [] (other ∷ others) r q e = absurd (no_brace other r (block_spelling others ++ q) (e ∙ block_spelling-cons other others q))
one_block_of (part ∷ parts) [] r q e = absurd (no_brace part q (block_spelling parts ++ r) (sym e ∙ block_spelling-cons part parts r))
one_block_of (part ∷ parts) (other ∷ others) r q e =
    let first = one_statement part other (block_spelling parts ++ r) (block_spelling others ++ q)
    (sym (block_spelling-cons part parts r) ∙ e ∙ block_spelling-cons other others q) in
    let later = one_block_of parts others r q first.1 in
    (ap₂ (λ x xs. x ∷ xs) first.0 later.0, later.1)
