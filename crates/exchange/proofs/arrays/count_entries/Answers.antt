-- `arrays::count_entries` meets its contract: each turn is one turn of the definition, from the numbers so far.
use Rattle.std.proofs.Common.{◌≡◌, ℕ, ◌+◌, ◌<◌, ◌≤◌, slice_index_or, rules, List, [], ◌∷◌, ◌++◌, length, length-append, sym, ap, ◌∙◌, arith}
use Rattle.std.proofs.Math.Option.{none, some}
use Rattle.exchange.specs.Reader.{Read, read_token, read_word}
use Rattle.exchange.specs.Cursor.{counted, read_of}
use Rattle.exchange.proofs.Stepping.{behind_first}
use Rattle.exchange.proofs.Turning.{mark_end, mark_here, mark_other, rest_got, rest_none, past, entries_from, entries_stop, entries_close, entries_open, entries_next}
use Rattle.exchange.proofs.arrays.count_entries.Goals.{After-skip_space, At-loop-behind, in_default-via-then-skip_space-lt1, in_default-via-else-skip_space-lt1+in_default-1}
use Rattle.exchange.proofs.arrays.count_entries.Goals as goal

-- what is known in a turn: the numbers so far lead where all lead

module _ (d : At-loop-behind) where
  abbrev so_far : List ℕ
  so_far = d.loop-behind.invariant.1.0

  led : (o : Read (List ℕ)) → entries_from so_far d.loop-behind.left.now ≡ o → entries_from [] d.args.s.now ≡ o
  led o e = d.loop-behind.invariant.1.2 ∙ e

-- behind a number

module _ (k : After-skip_space) where
  abbrev text : List ℕ
  text = k.loop-behind.left.now

  found : (n : ℕ) × (read_word text ≡ some (n, k.in_ok-skip_word.field-0.now))
  found = rest_got (read_word text) k.in_ok-skip_word.field-0.now k.in_ok-skip_word.ensures

  abbrev more : List ℕ
  more = k.loop-behind.invariant.1.0 ++ (found.0 ∷ [])

  longer : length (k.loop-behind.invariant.1.0 ++ (found.0 ∷ [])) ≡ k.loop-behind.count + 1
  longer = omega (arith, length-append k.loop-behind.invariant.1.0 (found.0 ∷ []), k.loop-behind.invariant.1.1)

pub returns-in_err-skip_word : goal.returns-in_err-skip_word
returns-in_err-skip_word c =
    let d = (goal.at.returns-in_err-skip_word c).At-loop-behind in
    ap read_of c.from_residual.ensures ∙ sym (ap counted (led d none (entries_stop (so_far d) c.loop-behind.left.now (rest_none _ c.in_err-skip_word.ensures))))

pub returns-in-93 : goal.returns-in-93
returns-in-93 c =
    let d = (goal.at.returns-in-93 c).At-loop-behind in
    let k = (goal.at.returns-in-93 c).After-skip_space in
    let mark = mark_here 93 c.in_ok-skip_word.field-0.now c.skip_space.result.now c.skip_space.ensures (omega arith) (omega arith) in
    (λ i. some (sym (longer k) i, behind_first c.skip_space.result.now))
    ∙ sym (ap counted (led d _ (entries_close (so_far d) (text k) (found k).0 c.in_ok-skip_word.field-0.now (found k).1 (behind_first c.skip_space.result.now) mark)))

pub loop-behind-smaller : goal.loop-behind-smaller
loop-behind-smaller c =
    let k = (goal.at.loop-behind-smaller c).After-skip_space in
    let mark = mark_here 44 c.in_ok-skip_word.field-0.now c.skip_space.result.now c.skip_space.ensures (omega arith) (omega arith) in
    past (text k) c.in_ok-skip_word.field-0.now (behind_first c.skip_space.result.now) (44 ∷ []) (found k).0 (omega arith) (found k).1 mark

pub loop-behind-preserved : goal.loop-behind-preserved
loop-behind-preserved c =
    let d = (goal.at.loop-behind-preserved c).At-loop-behind in
    let k = (goal.at.loop-behind-preserved c).After-skip_space in
    let t = c.in_ok-skip_word.field-0.now in
    let u = c.skip_space.result.now in
    let mark = mark_here 44 t u c.skip_space.ensures (omega arith) (omega arith) in
    let other = mark_other 93 t u c.skip_space.ensures (omega arith) (λ p. omega arith) in
    let less = past (text k) t (behind_first u) (44 ∷ []) (found k).0 (omega arith) (found k).1 mark in
    (omega (arith, less, c.loop-behind.invariant.0), (more k, longer k, led d _ (entries_next (so_far d) (text k) (found k).0 t (found k).1 (behind_first u) other mark)))

pub returns-in_default : goal.returns-in_default
returns-in_default c =
    let d = (goal.at.returns-in_default c).At-loop-behind in
    let k = (goal.at.returns-in_default c).After-skip_space in
    let t = c.in_ok-skip_word.field-0.now in
    let u = c.skip_space.result.now in
    let stuck : read_token (93 ∷ []) t ≡ none → read_token (44 ∷ []) t ≡ none → none ≡ counted (entries_from [] c.args.s.now) =
    λ x y. sym (ap counted (led d none (entries_open (so_far d) (text k) (found k).0 t (found k).1 x y))) in
    elim c.in_default.branch [
      | in_default-via-then-skip_space-lt1 w ↦
          let none-left : length u < 1 = search rules in
          stuck (mark_end 93 t u c.skip_space.ensures none-left) (mark_end 44 t u c.skip_space.ensures none-left)
      | in_default-via-else-skip_space-lt1+in_default-1 w ↦
          let some_byte : 1 ≤ length u = search rules in
          let no_close : slice_index_or u 0 0 ≡ 93 → ⊥ = search rules in
          let no_comma : slice_index_or u 0 0 ≡ 44 → ⊥ = search rules in
          stuck (mark_other 93 t u c.skip_space.ensures some_byte no_close) (mark_other 44 t u c.skip_space.ensures some_byte no_comma)
    ]
