-- `keys::read_name` meets its contract: what is left of the keys leads where all lead.
use Rattle.std.proofs.Common.{rules, ◌≡◌, ap, ◌∙◌, List, ℕ}
use Rattle.exchange.specs.Reader.{names, skip, read_token}
use Rattle.exchange.specs.declared.keys.Name.TheVariants.{Bits}
use Rattle.exchange.proofs.Naming.{name_found, name_missed, token_again}
use Rattle.exchange.proofs.keys.read_name.Goals as goal

-- a token is tried behind the white space
tried : (k n from s : List ℕ) → from ≡ skip s → k ≡ n → read_token k from ≡ read_token n s
tried k n from s e h = ap (λ (x : List ℕ). read_token x from) h ∙ ap (read_token n) e ∙ token_again n s

pub returns-in-Some : goal.returns-in-Some
returns-in-Some c =
    name_found names c.loop-name.name-index c.args.s.now Bits (search rules) c.in-Some.left.now
    (c.in-Some.ensures ∙ tried _ _ _ c.args.s.now c.skip_space-from.ensures c.quoted.ensures)
    ∙ c.loop-name.invariant

pub loop-name-preserved : goal.loop-name-preserved
loop-name-preserved c =
    name_missed names c.loop-name.name-index c.args.s.now Bits (search rules) (c.in_default.ensures ∙ tried _ _ _ c.args.s.now c.skip_space-from.ensures c.quoted.ensures)
    ∙ c.loop-name.invariant
