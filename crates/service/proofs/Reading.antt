-- What a reader gave, as the words that were read of it.
--   reads_front    bytes that were read up to a limit, into no others, are the front of what the reader had
--   said_of        what holds of those bytes holds of the front
--   follows, follows_of   what follows from what holds of a value, if there is one; from two things
--   written_over   as many words in the place of others
--   words_filled   words that are as many as the bytes make are all written
use Rattle.std.proofs.Common.{◌≡◌, ℕ, zero, suc, ◌*◌, ◌/◌, List, [], ◌++◌, Option, Some, None, take, drop, length, refl, ap, ◌∙◌, subst, arith, append-nil}
use Rattle.std.proofs.lemmas.List.{length-map, take_all, take-append-le, drop_all}
use Rattle.std.specs.Int.{from_le_bytes, w32}
use Rattle.std.specs.Option.{option_map, IfSome}
use Rattle.std.specs.Simd.{first_chunks}
use Rattle.wire.specs.Bytes.{words_in}
use Rattle.service.specs.Streams.{bytes_read}
use Rattle.service.specs.declared.streaming.TheConstants.{MOST_WORDS}

pub reads_front : (o p : Option (List ℕ)) (n : ℕ) (got start : List ℕ) → p ≡ o → n ≡ 4 * MOST_WORDS → start ≡ []
    → IfSome (option_map (take n) p) (λ xs. got ≡ start ++ xs) → IfSome o (λ bs. got ≡ bytes_read bs)
reads_front o p n got start same limit empty h =
    front o (subst (λ q. IfSome (option_map (take n) q) (λ xs. got ≡ start ++ xs)) same h)
  where
    front : (q : Option (List ℕ)) → IfSome (option_map (take n) q) (λ xs. got ≡ start ++ xs) → IfSome q (λ bs. got ≡ bytes_read bs)
    front None i = tt
    front (Some bs) i = i ∙ (ap (λ xs. xs ++ take n bs) empty ∙ ap (λ k. take k bs) limit)

pub said_of : {X : Type 0} (f : List ℕ → X) (x : X) (o : Option (List ℕ)) (got : List ℕ) → x ≡ f got → IfSome o (λ bs. got ≡ bytes_read bs)
    → IfSome o (λ bs. x ≡ f (bytes_read bs))
said_of f x None got e h = tt
said_of f x (Some bs) got e h = e ∙ ap f h

chunks_count : (k : ℕ) (bs : List ℕ) → length (first_chunks 4 k bs) ≡ k
chunks_count zero bs = refl
chunks_count (suc k) bs = ap suc (chunks_count k (drop 4 bs))

pub words_count : (bs : List ℕ) → length (words_in bs) ≡ length bs / 4
words_count bs = length-map (first_chunks 4 (length bs / 4) bs) (from_le_bytes w32) ∙ chunks_count (length bs / 4) bs

pub words_filled : (bs ws vs : List ℕ) → length ws ≡ length bs / 4 → vs ≡ take (length ws) (words_in bs) ++ drop (length (words_in bs)) ws
    → vs ≡ words_in bs
words_filled bs ws vs room e =
    let made : length (words_in bs) ≡ length bs / 4 = words_count bs in
    e
    ∙ (ap (λ xs. xs ++ drop (length (words_in bs)) ws) (take_all (length ws) (words_in bs) (omega arith))
    ∙ (ap (λ xs. words_in bs ++ xs) (drop_all (length (words_in bs)) ws (omega arith)) ∙ append-nil (words_in bs)))

-- A list that was written over by as many words has these.
pub written_over : (n : ℕ) (ws rest : List ℕ) → n ≡ length ws → take n (ws ++ rest) ≡ ws
written_over n ws rest e = take-append-le n ws rest (omega arith) ∙ take_all n ws (omega arith)

-- What follows of a value from two things that hold of it.
pub follows_of : {X : Type 0} (A B Q : X → Type 0) (o : Option X) → ((x : X) → A x → B x → Q x) → IfSome o A → IfSome o B → IfSome o Q
follows_of A B Q None f a b = tt
follows_of A B Q (Some x) f a b = f x a b

pub follows : {X : Type 0} (A Q : X → Type 0) (o : Option X) → ((x : X) → A x → Q x) → IfSome o A → IfSome o Q
follows A Q None f a = tt
follows A Q (Some x) f a = f x a
