-- Laws of arrays, members and texts: what is read is in the grammar, and what is in the grammar is read.
use mathlib.Core.Path.{◌≡◌, refl, sym, subst, ◌∙◌}
use mathlib.Core.Bool.{Bool, true, false}
use mathlib.Core.List.{List, [], ◌∷◌, ◌++◌, append_assoc, append-nil}
use mathlib.Core.Option.{none, some}
use Prim.Native.Nat.{ℕ, zero, suc, ◌≤◌}
use native.Mathlib.Omega.{arith}
use lib.ListN.{length, length-append}
use Rattle.exchange.specs.Grammar.{Exchanged, ascii, is_space, is_digit, is_exp, Ws, Token, token, Truth, is_false, is_true, Separated, last, further, Entry, entry, Array, empty, full, Seen, seen, Key, key, Member, has_bits, has_indices, has_division, has_block, has_low, has_score, Text, text}
use Rattle.exchange.specs.Reader.{Read, skip, read_exactly, read_token, read_truth, read_word, skip_score, read_turns, read_separated, read_entry, read_array, quoted, names, read_name, read_key, read_value, read_member, whole, is_empty, nothing_seen, read_text}
use Rattle.exchange.specs.declared.keys.Name.{Name}
use Rattle.exchange.specs.declared.keys.Name.TheVariants.{Bits, SortedIndices, BestDivision, BlockSize, LowFirst, ZScore}
use Rattle.exchange.proofs.Tokens.{Split, Splits, joined, kept, none_some, some_same, bound, chosen, passed, skip_ws, skipped, token_sound, token_is}
use Rattle.exchange.proofs.Numbers.{Clear, before, token_clear, word_sound, word_complete, word_no_end, score_sound, score_complete}

-- ---- things with commas between them

-- a token is no shorter than its bytes
pub token_long : {k a : List ℕ} → Token k a → length k ≤ length a
token_long {k} (token {a = w} q) = simp length-append (omega arith)

module _ {S : Type 0} (P : S → List ℕ → S → Type 0) (step : S → List ℕ → Read S) (close : List ℕ) where
  module _ (sound : (st : S) (s : List ℕ) (r : S × List ℕ) → step st s ≡ some r → Splits s r (P st)) where
    pub turns_sound : (k : ℕ) (st : S) (s : List ℕ) (r : S × List ℕ) → read_turns step close k st s ≡ some r → Splits s r (Separated P close st)
    unfolding read_turns
    turns_sound zero st s r e = none_some e
    turns_sound (suc k) st s r e =
        bound (step st s) _ e (λ q x y.
        chosen (read_token close q.1) _ _ y
        (λ u z v. kept (Separated P close st) v (joined (sound st s q x) (token_sound close q.1 u z) (λ a b p t. last p t)))
        (λ v.
        bound (read_token (ascii ",") q.1) _ v (λ u z w.
        let front : Split s u (λ a. (c : List ℕ) → Separated P close q.0 c r.0 → Separated P close st (a ++ c) r.0) =
        joined (sound st s q x) (token_sound (ascii ",") q.1 u z) (λ a b p t. λ c m. further p t m) in
        joined front (turns_sound k q.0 u r w) (λ a b f m. f b m))))

  module _ (complete : (st st' : S) (a t : List ℕ) → P st a st' → Clear t → step st (a ++ t) ≡ some (st', t)) (some_byte : 1 ≤ length close)
      (found : (t : List ℕ) → read_exactly close (skip (close ++ t)) ≡ some t)
      (other : (t : List ℕ) → read_exactly close (skip (ascii "," ++ t)) ≡ none) (clear : (t : List ℕ) → Clear (close ++ t)) where
    turns_complete : (k : ℕ) {st st' : S} {a : List ℕ} → Separated P close st a st' → (t : List ℕ) → length a ≤ k
        → read_turns step close k st (a ++ t) ≡ some (st', t)
    unfolding read_turns read_exactly skip is_space is_digit is_exp
    turns_complete zero (last {a} {b} p x) t l = absurd (omega (arith, length-append a b, token_long x))
    turns_complete zero (further {a} {b} {c} p x m) t l = absurd (omega (arith, length-append (a ++ b) c, length-append a b, token_long x))
    turns_complete (suc k) (last {a} {b} p x) t l =
        rw (append_assoc a b t, complete _ _ a (b ++ t) p (token_clear x t (clear t)), token_is x close t, found t)
    turns_complete (suc k) (further {a} {b} {c} p x m) t l =
        let comma : Clear (ascii "," ++ (c ++ t)) = record { no_digits = before refl; no_point = before refl; no_exp = before refl } in
        let group : a ++ b ++ c ++ t ≡ a ++ (b ++ (c ++ t)) = simp append_assoc in
        rw (group, complete _ _ a (b ++ (c ++ t)) p (token_clear x (c ++ t) comma), token_is x close (c ++ t), other (c ++ t), token_is x (ascii ",") (c ++ t))
        (turns_complete k m t (omega (arith, length-append (a ++ b) c, length-append a b, token_long x)))

-- ---- arrays

pub entry_sound : (ns s : List ℕ) (r : List ℕ × List ℕ) → read_entry ns s ≡ some r → Splits s r (Entry ns)
unfolding read_entry
entry_sound ns s r e =
    bound (read_word s) _ e (λ q x y. let (a, p, w) = word_sound s q x in kept (Entry ns) y (a, p, entry w))

entry_complete : (ns ms a t : List ℕ) → Entry ns a ms → Clear t → read_entry ns (a ++ t) ≡ some (ms, t)
unfolding read_entry
entry_complete ns ms a t (entry w) k = rw (word_complete w k)

entries_no_end : {ns a ms : List ℕ} → Separated Entry (ascii "]") ns a ms → (t : List ℕ) → read_token (ascii "]") (a ++ t) ≡ none
entries_no_end (last {a} {b} (entry w) x) t = rw (append_assoc a b t) (word_no_end w (b ++ t))
entries_no_end (further {a} {b} {c} (entry w) x m) t = rw (append_assoc (a ++ b) c t, append_assoc a b (c ++ t)) (word_no_end w (b ++ (c ++ t)))

array_sound : (s : List ℕ) (r : List ℕ × List ℕ) → read_array s ≡ some r → Splits s r Array
unfolding read_array
array_sound s r e =
    bound (read_token (ascii "[") s) _ e (λ t x y.
    chosen (read_token (ascii "]") t) _ _ y
    (λ u z v. kept Array v (joined (token_sound (ascii "[") s t x) (token_sound (ascii "]") t u z) (λ a b p q. empty p q)))
    (λ v. joined (token_sound (ascii "[") s t x) (turns_sound Entry read_entry (ascii "]") entry_sound (length t) [] t r v) (λ a b p q. full p q)))

bracket_clear : (t : List ℕ) → Clear (ascii "]" ++ t)
unfolding is_digit is_exp
bracket_clear t = record { no_digits = before refl; no_point = before refl; no_exp = before refl }

array_complete : {a ns : List ℕ} → Array a ns → (t : List ℕ) → read_array (a ++ t) ≡ some (ns, t)
unfolding read_array read_exactly skip is_space
array_complete (empty {a} {b} x y) t = rw (append_assoc a b t, token_is x (ascii "[") (b ++ t), token_is y (ascii "]") t)
array_complete (full {a} {b} {ns} x m) t =
    let all : length b ≤ length (b ++ t) = simp length-append (omega arith) in
    rw (append_assoc a b t, token_is x (ascii "[") (b ++ t), entries_no_end m t)
    (turns_complete Entry read_entry (ascii "]") entry_complete (omega arith) (λ u. refl) (λ u. refl) bracket_clear (length (b ++ t)) m t all)

-- ---- true and false

truth_sound : (s : List ℕ) (r : Bool × List ℕ) → read_truth s ≡ some r → Splits s r Truth
unfolding read_truth
truth_sound s r e =
    chosen (read_token (ascii "false") s) _ _ e
    (λ t x y. let (a, p, w) = token_sound (ascii "false") s t x in kept Truth y (a, p, is_false w))
    (λ y.
    bound (read_token (ascii "true") s) _ y (λ t z v.
    let (a, p, w) = token_sound (ascii "true") s t z in kept Truth v (a, p, is_true w)))

truth_complete : {a : List ℕ} {v : Bool} → Truth a v → (t : List ℕ) → read_truth (a ++ t) ≡ some (v, t)
unfolding read_truth read_exactly skip is_space
truth_complete (is_false x) t = simp (token_is x)
truth_complete (is_true x) t = simp (token_is x)

-- ---- members

name_sound : (xs : List Name) (s : List ℕ) (r : Name × List ℕ) → read_name xs s ≡ some r → Splits s r (λ a x. Token (quoted x) a)
unfolding read_name
name_sound [] s r e = none_some e
name_sound (x ∷ xs) s r e =
    chosen (read_token (quoted x) s) _ _ e (λ t y z. kept (λ a x. Token (quoted x) a) z (token_sound (quoted x) s t y)) (λ y. name_sound xs s r y)

name_complete : (x : Name) (a : List ℕ) → Token (quoted x) a → (t : List ℕ) → read_name names (a ++ t) ≡ some (x, t)
unfolding read_name read_exactly skip is_space
name_complete Bits a k t = simp (token_is k)
name_complete SortedIndices a k t = simp (token_is k)
name_complete BestDivision a k t = simp (token_is k)
name_complete BlockSize a k t = simp (token_is k)
name_complete LowFirst a k t = simp (token_is k)
name_complete ZScore a k t = simp (token_is k)

-- what a value makes of the members before it, behind its key
abbrev Valued : Name → Seen → List ℕ → Seen → Type 0
Valued x st b st' = (a : List ℕ) → Key (quoted x) a → Member st (a ++ b) st'

value_sound : (x : Name) (st : Seen) (s : List ℕ) (r : Seen × List ℕ) → read_value x st s ≡ some r → Splits s r (Valued x st)
unfolding read_value
value_sound Bits (seen none i d b l z) s r e =
    bound (read_array s) _ e (λ q x y. let (c, p, w) = array_sound s q x in kept (Valued Bits (seen none i d b l z)) y (c, p, λ a k. has_bits k w))
value_sound Bits (seen (some x) i d b l z) s r e = none_some e
value_sound SortedIndices (seen x none d b l z) s r e =
    bound (read_array s) _ e (λ q y v. let (c, p, w) = array_sound s q y in kept (Valued SortedIndices (seen x none d b l z)) v (c, p, λ a k. has_indices k w))
value_sound SortedIndices (seen x (some i) d b l z) s r e = none_some e
value_sound BestDivision (seen x i none b l z) s r e =
    bound (read_word s) _ e (λ q y v. let (c, p, w) = word_sound s q y in kept (Valued BestDivision (seen x i none b l z)) v (c, p, λ a k. has_division k w))
value_sound BestDivision (seen x i (some d) b l z) s r e = none_some e
value_sound BlockSize (seen x i d none l z) s r e =
    bound (read_word s) _ e (λ q y v. let (c, p, w) = word_sound s q y in kept (Valued BlockSize (seen x i d none l z)) v (c, p, λ a k. has_block k w))
value_sound BlockSize (seen x i d (some b) l z) s r e = none_some e
value_sound LowFirst (seen x i d b none z) s r e =
    bound (read_truth s) _ e (λ q y v. let (c, p, w) = truth_sound s q y in kept (Valued LowFirst (seen x i d b none z)) v (c, p, λ a k. has_low k w))
value_sound LowFirst (seen x i d b (some l) z) s r e = none_some e
value_sound ZScore (seen x i d b l false) s r e =
    bound (skip_score s) _ e (λ q y v. let (c, p, w) = score_sound s q y in kept (Valued ZScore (seen x i d b l false)) v (c, p, λ a k. has_score k w))
value_sound ZScore (seen x i d b l true) s r e = none_some e

key_sound : (s : List ℕ) (r : Name × List ℕ) → read_key s ≡ some r → Splits s r (λ a x. Key (quoted x) a)
unfolding read_key
key_sound s r e =
    bound (read_name names s) _ e (λ q x y.
    bound (read_token (ascii ":") q.1) _ y (λ u z v.
    kept (λ a x. Key (quoted x) a) v (joined (name_sound names s q x) (token_sound (ascii ":") q.1 u z) (λ a b k c. key k c))))

pub member_sound : (st : Seen) (s : List ℕ) (r : Seen × List ℕ) → read_member st s ≡ some r → Splits s r (Member st)
unfolding read_member
member_sound st s r e = bound (read_key s) _ e (λ q x y. joined (key_sound s q x) (value_sound q.0 st q.1 r y) (λ a b k m. m a k))

key_read : (x : Name) (a : List ℕ) → Key (quoted x) a → (st : Seen) (t : List ℕ) → read_member st (a ++ t) ≡ read_value x st t
unfolding read_member read_key read_exactly skip is_space
key_read x c (key {a} {b} k y) st t = rw (append_assoc a b t, name_complete x a k (b ++ t), token_is y (ascii ":") t)

member_complete : (st st' : Seen) (a t : List ℕ) → Member st a st' → Clear t → read_member st (a ++ t) ≡ some (st', t)
unfolding read_value
member_complete st st' c t (has_bits {a} {s} k v) h = rw (append_assoc a s t, key_read Bits a k st (s ++ t), array_complete v t)
member_complete st st' c t (has_indices {a} {s} k v) h = rw (append_assoc a s t, key_read SortedIndices a k st (s ++ t), array_complete v t)
member_complete st st' c t (has_division {a} {s} k v) h = rw (append_assoc a s t, key_read BestDivision a k st (s ++ t), word_complete v h)
member_complete st st' c t (has_block {a} {s} k v) h = rw (append_assoc a s t, key_read BlockSize a k st (s ++ t), word_complete v h)
member_complete st st' c t (has_low {a} {s} k v) h = rw (append_assoc a s t, key_read LowFirst a k st (s ++ t), truth_complete v t)
member_complete st st' c t (has_score {a} {s} k v) h = rw (append_assoc a s t, key_read ZScore a k st (s ++ t), score_complete v h)

-- ---- texts

abbrev Ended : Exchanged → Seen → List ℕ → Type 0
Ended r st b = (a c : List ℕ) → Token (ascii "{") a → Ws c → Text (a ++ b ++ c) r

all_there : (st : Seen) (r : Exchanged) (b : List ℕ) → whole st ≡ some r → Separated Member (ascii "}") nothing_seen b st → Ended r st b
unfolding whole
all_there (seen none i d n l z) r b e m = none_some e
all_there (seen (some x) none d n l z) r b e m = none_some e
all_there (seen (some x) (some i) none n l z) r b e m = none_some e
all_there (seen (some x) (some i) (some d) none l z) r b e m = none_some e
all_there (seen (some x) (some i) (some d) (some n) l z) r b e m = λ a c t w. subst (λ (r : Exchanged). Text (a ++ b ++ c) r) (some_same e) (text t m w)

emptied : (l : List ℕ) → is_empty l ≡ true → l ≡ []
emptied [] e = refl
emptied (c ∷ s) e = let z : ◌≡◌ {A = ℕ} 0 1 = cc in absurd (omega arith)

pub text_sound : (s : List ℕ) (r : Exchanged) → read_text s ≡ some r → Text s r
unfolding read_text
text_sound s r e =
    bound (read_token (ascii "{") s) _ e (λ t x y.
    bound (read_separated read_member (ascii "}") nothing_seen t) _ y (λ q z v.
    let p = passed (is_empty (skip q.1)) _ v in
    let none_left : skip q.1 ≡ [] = emptied (skip q.1) p.0 in
    let end : Split q.1 [] Ws = subst (λ (l : List ℕ). Split q.1 l Ws) none_left (skipped q.1) in
    let front : Split s q.1 (λ a. (c : List ℕ) → Ws c → Text (a ++ c) r) =
    joined (token_sound (ascii "{") s t x) (turns_sound Member read_member (ascii "}") member_sound (length t) nothing_seen t q z)
    (λ a b k m. λ c w. all_there q.0 r b p.1 m a c k w) in
    let (a, same, h) = joined {R = λ a. Text a r} front end (λ a b f w. f b w) in
    subst (λ (l : List ℕ). Text l r) (sym (same ∙ append-nil a)) h))

brace_clear : (t : List ℕ) → Clear (ascii "}" ++ t)
unfolding is_digit is_exp
brace_clear t = record { no_digits = before refl; no_point = before refl; no_exp = before refl }

pub text_complete : {s : List ℕ} {r : Exchanged} → Text s r → read_text s ≡ some r
unfolding read_text read_exactly skip is_space whole
text_complete (text {a} {b} {c} x m w) =
    let all : length b ≤ length (b ++ c) = simp length-append (omega arith) in
    let ended : skip c ≡ [] = rw append-nil at (skip_ws w []) in
    rw (
      append_assoc a b c,
      token_is x (ascii "{") (b ++ c),
      turns_complete Member read_member (ascii "}") member_complete (omega arith) (λ u. refl) (λ u. refl) brace_clear (length (b ++ c)) m c all,
      ended,
    )

pub text_unique : {s : List ℕ} {r r' : Exchanged} → Text s r → Text s r' → r ≡ r'
text_unique x y = some_same (sym (text_complete x) ∙ text_complete y)
