-- `entries::next_row` meets its contract: `Making`, from `to` down to `from`.
use mathlib.Core.Path.{◌≡◌, subst, ◌∙◌}
use Prim.Native.Nat.{ℕ, ◌+◌, ◌-◌, ◌<◌}
use native.Mathlib.Omega.{arith}
use lib.ListN.{length, get_or, set, length-set}
use lib.Seq.{get_or-set_same}
use Rattle.chance.specs.Entries.{next_entry}
use Rattle.chance.specs.Zeros.{Row}
use Rattle.chance.proofs.InPlace.{make_begins, make_more, make_ends, after_cleared, cleared}
use Rattle.chance.proofs.entries.next_row.Goals.{Start}
use Rattle.chance.proofs.entries.next_row.Goals as goal

-- the entry past the row is in the scratch, and has been made 0
room : (s : Start) → s.args.m < length (set s.args.scratch.now s.args.m 0)
room s = rw length-set s.requires.m_in_bounds

missing : (s : Start) → get_or (set s.args.scratch.now s.args.m 0) s.args.m 0 ≡ 0
missing s = get_or-set_same s.args.scratch.now s.args.m 0 0 s.requires.m_in_bounds

row : (s : Start) → Row s.args.m s.args.from s.args.to (set s.args.scratch.now s.args.m 0)
row s = cleared s.args.m s.args.from s.args.to s.args.scratch.now s.requires.row

pub loop-j-init : goal.loop-j-init
loop-j-init c =
    let a = c.args in
    let s = (goal.at.loop-j-init c).Start in
    (make_begins a.odds.k a.odds.d a.m (set a.scratch.now a.m 0) (room s) (missing s) a.from a.to (row s), c.requires.row.ordered)

pub loop-j-preserved : goal.loop-j-preserved
loop-j-preserved c =
    let a = c.args in
    let l = c.loop-j in
    let s = (goal.at.loop-j-preserved c).Start in
    let pos : 0 < l.j = omega arith in
    let e : l.j - 1 + 1 ≡ l.j = omega arith in
    let is : c.next_entry.result ≡ next_entry a.odds.k a.odds.d (get_or l.scratch l.j 0) (get_or l.scratch (l.j - 1) 0) =
    subst (λ (i : ℕ). c.next_entry.result ≡ next_entry a.odds.k a.odds.d (get_or l.scratch i 0) (get_or l.scratch (l.j - 1) 0)) e c.next_entry.ensures in (
      rw e (make_more a.odds.k a.odds.d a.m (set a.scratch.now a.m 0) (room s) (missing s) l.j l.scratch c.next_entry.result pos l.invariant.0 is),
      omega arith,
    )

pub returns : goal.returns
returns c =
    let a = c.args in
    let s = (goal.at.returns c).Start in
    let e : c.loop-j.j ≡ a.from = omega (arith, c.loop-j-test.false, c.loop-j.invariant.1) in
    make_ends a.odds.k a.odds.d a.m (set a.scratch.now a.m 0) (room s) (missing s) a.from a.to (row s) c.loop-j.scratch c.next_entry-2.result
    (rw e at c.loop-j.invariant.0) c.next_entry-2.ensures
    ∙ after_cleared a.odds.k a.odds.d a.m a.scratch.now
