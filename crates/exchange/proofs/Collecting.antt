-- Laws of the members: one turn of the loop over them.
use mathlib.Core.Path.{◌≡◌, ap, ◌∙◌}
use mathlib.Core.List.{List}
use mathlib.Core.Option.{none, some}
use Prim.Native.Nat.{ℕ, ◌<◌}
use native.Mathlib.Omega.{arith}
use lib.ListN.{length, length-append}
use Rattle.exchange.specs.Grammar.{ascii, Seen}
use Rattle.exchange.specs.Reader.{Read, read_token, read_member, read_separated}
use Rattle.exchange.proofs.Tokens.{token_sound}
use Rattle.exchange.proofs.Objects.{token_long, member_sound}
use Rattle.exchange.proofs.Following.{member_turn}

abbrev pub members_from : Seen → List ℕ → Read Seen
members_from st s = read_separated read_member (ascii "}") st s

module _ (st : Seen) (s : List ℕ) where
  pub members_stop : read_member st s ≡ none → members_from st s ≡ none
  members_stop e = member_turn st s ∙ rw e

  module _ (st' : Seen) (t : List ℕ) (e : read_member st s ≡ some (st', t)) where
    pub members_close : (u : List ℕ) → read_token (ascii "}") t ≡ some u → members_from st s ≡ some (st', u)
    members_close u x = member_turn st s ∙ rw (e, x)

    pub members_open : read_token (ascii "}") t ≡ none → read_token (ascii ",") t ≡ none → members_from st s ≡ none
    members_open x y = member_turn st s ∙ rw (e, x, y)

    pub members_next : (u : List ℕ) → read_token (ascii "}") t ≡ none → read_token (ascii ",") t ≡ some u → members_from st s ≡ members_from st' u
    members_next u x y = member_turn st s ∙ rw (e, x, y)

    -- a member and its comma take a byte or more
    pub member_past : (u : List ℕ) → read_token (ascii ",") t ≡ some u → length u < length s
    member_past u y =
        let (a, p, w) = member_sound st s (st', t) e in
        let (d, q, m) = token_sound (ascii ",") t u y in
        omega (arith, ap length p, length-append a t, ap length q, length-append d u, token_long m)
