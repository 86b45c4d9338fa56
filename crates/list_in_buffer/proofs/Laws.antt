-- A part that was lent and given back, and a word that was stored, are both a Put; a word of a part is a word of the buffer.
use mathlib.Core.Path.{◌≡◌, sym, ◌∙◌, ap, subst}
use mathlib.Core.Logic.{⊎_elim}
use Prim.Native.Nat.{ℕ, ◌+◌, ◌-◌, ◌≤◌, ◌<◌}
use native.Mathlib.Omega.{arith}
use mathlib.Core.List.{List}
use lib.ListN.{length, get_or, set, take, drop, length-drop, length-set}
use lib.Seq.{get_or-take, get_or-drop, length-take-le, drop-set-add, take-set-lt, ext_get_or, get_or-set_other}
use borrow.Rule.Slice.PartMut.{put_mid}
use Rattle.list_in_buffer.specs.Part.{part, Put}
use Rattle.list_in_buffer.proofs.Mid.{mid-same, mid-other, length-put}

pub length_part : (t : List ℕ) (a k : ℕ) → a + k ≤ length t → length (part t a k) ≡ k
length_part t a k h = length-take-le k (drop a t) (let e = length-drop a t in omega arith)

pub part-get : (t : List ℕ) (a k j : ℕ) → j < k → get_or (part t a k) j 0 ≡ get_or t (a + j) 0
part-get t a k j h = get_or-take k (drop a t) j 0 h ∙ get_or-drop a t j 0

pub put-mid : (a k d : ℕ) (t ys : List ℕ) → d ≡ k → a + k ≤ length t → length ys ≡ k → Put a k t (put_mid a d t ys) ys
put-mid a k d t ys e f s =
    subst (λ (x : ℕ). Put a k t (put_mid a x t ys) ys) (sym e)
    (record { same_length = length-put a k t ys f s; here = mid-same a k t ys f s; apart = λ b j l o. mid-other a k t ys f s b j l o })

-- a store at j in the part is one in the buffer
pub put-set : (a k j v : ℕ) (t : List ℕ) → j < k → a + k ≤ length t → Put a k t (set t (a + j) v) (set (part t a k) j v)
put-set a k j v t h f =
    record {
      same_length = length-set t (a + j) v;
      here = ap (take k) (drop-set-add a t j v) ∙ take-set-lt k (drop a t) j v h;
      apart = λ b m l o.
          ext_get_or 0 (part (set t (a + j) v) b m) (part t b m)
          (length_part (set t (a + j) v) b m (rw (length-set t (a + j) v) l) ∙ sym (length_part t b m l))
          (λ i g.
          let gm : i < m = rw (length_part (set t (a + j) v) b m (rw (length-set t (a + j) v) l)) at g in
          part-get (set t (a + j) v) b m i gm
          ∙ get_or-set_other t (a + j) (b + i) v 0 (⊎_elim (λ (p : b + m ≤ a) (e : b + i ≡ a + j). omega arith) (λ (p : a + k ≤ b) (e : b + i ≡ a + j). omega arith) o)
          ∙ sym (part-get t b m i gm));
    }

pub less : (a k : ℕ) → a + k - a ≡ k
less a k = omega arith

-- a part lent to a call that makes f of it
pub put-lent : (f : List ℕ → List ℕ) (a k : ℕ) (t : List ℕ) {ys : List ℕ} → a + k ≤ length t → length ys ≡ length (part t a (a + k - a)) → ys ≡ f (part t a (a + k - a))
    → Put a k t (put_mid a (a + k - a) t ys) (f (part t a k))
put-lent f a k t {ys} h l e =
    let p : ys ≡ f (part t a k) = e ∙ ap (λ (x : ℕ). f (part t a x)) (less a k) in
    let q : length ys ≡ k = l ∙ ap (λ (x : ℕ). length (part t a x)) (less a k) ∙ length_part t a k h in
    subst (λ (zs : List ℕ). Put a k t (put_mid a (a + k - a) t ys) zs) p (put-mid a k (a + k - a) t ys (less a k) h q)
