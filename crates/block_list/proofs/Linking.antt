-- What stays linked where a node goes, and where two rows are joined.
use mathlib.Core.Path.{◌≡◌, refl}
use mathlib.Core.Logic.{∥∥₁_elim}
use mathlib.Core.List.{List, [], ◌∷◌, ◌++◌}
use base.Stored.{Coded-set}
use denote.RawPtr.{Ptr, coded_ptr}
use Rattle.block_list.specs.Links.{Link, Leads, EndsBehind, Ends, IsLinked}

-- a pointer leads to nodes in one way
Leads-prop : (p : Ptr) (ls : List Link) → IsProp (Leads p ls)
Leads-prop p [] = λ a b. refl
Leads-prop p (l ∷ ls) = λ a b i. (Coded-set coded_ptr p l.0 a.0 b.0 i, Leads-prop l.1 ls a.1 b.1 i)

-- and they end in one way
EndsBehind-prop : (p : Ptr) (ls : List Link) (t : Ptr) → IsProp (EndsBehind p ls t)
EndsBehind-prop p [] t = Coded-set coded_ptr t p
EndsBehind-prop p (l ∷ ls) t = EndsBehind-prop l.0 ls t

-- the same from the first node on
Ends-prop : (ls : List Link) (t : Ptr) → IsProp (Ends ls t)
Ends-prop [] t = λ a b. refl
Ends-prop (l ∷ ls) t = EndsBehind-prop l.0 ls t

-- so the fact that nodes keep is had in full
pub IsLinked-had : (h t : Ptr) (ls : List Link) → ∥ IsLinked h t ls ∥₁ → IsLinked h t ls
IsLinked-had h t ls c = ∥∥₁_elim c (λ a b i. (Leads-prop h ls a.0 b.0 i, Ends-prop ls t a.1 b.1 i)) (λ a. a)

-- and so is that of a front
pub Leads-had : (p : Ptr) (ls : List Link) → ∥ Leads p ls ∥₁ → Leads p ls
Leads-had p ls c = ∥∥₁_elim c (Leads-prop p ls) (λ a. a)

-- without the first node
pub IsLinked-tail : (h t : Ptr) (l : Link) (ls : List Link) → IsLinked h t (l ∷ ls) → IsLinked l.1 t ls
IsLinked-tail h t l [] c = (tt, tt)
IsLinked-tail h t l (m ∷ ls) c = (c.0.1, c.1)

-- where the last node lies
EndsBehind-last : (p t : Ptr) (ls : List Link) (l : Link) → EndsBehind p (ls ++ l ∷ []) t → t ≡ l.0
EndsBehind-last p t [] l c = c
EndsBehind-last p t (m ∷ ls) l c = EndsBehind-last m.0 t ls l c

-- the tail is the last node's place
pub IsLinked-last : (h t : Ptr) (ls : List Link) (l : Link) → IsLinked h t (ls ++ l ∷ []) → t ≡ l.0
IsLinked-last h t [] l c = c.1
IsLinked-last h t (m ∷ ls) l c = EndsBehind-last m.0 t ls l c.1

-- the last node gets a new `next`, which leads to other nodes
Leads-join : (h p : Ptr) (ls : List Link) (l : Link) (ms : List Link) → Leads h (ls ++ l ∷ []) → Leads p ms
    → Leads h ((ls ++ (l.0, p) ∷ []) ++ ms)
Leads-join h p [] l ms c d = (c.0, d)
Leads-join h p (k ∷ ls) l ms c d = (c.0, Leads-join k.1 p ls l ms c.1 d)

-- the end is then that of the others
EndsBehind-join : (a u p : Ptr) (ls : List Link) (l m : Link) (ms : List Link) → EndsBehind m.0 ms u
    → EndsBehind a ((ls ++ (l.0, p) ∷ []) ++ m ∷ ms) u
EndsBehind-join a u p [] l m ms d = d
EndsBehind-join a u p (k ∷ ls) l m ms d = EndsBehind-join k.0 u p ls l m ms d

-- two rows are joined
pub IsLinked-join : (h t p u : Ptr) (ls : List Link) (l m : Link) (ms : List Link) → IsLinked h t (ls ++ l ∷ [])
    → IsLinked p u (m ∷ ms) → IsLinked h u ((ls ++ (l.0, p) ∷ []) ++ m ∷ ms)
IsLinked-join h t p u [] l m ms c d = (Leads-join h p [] l (m ∷ ms) c.0 d.0, d.1)
IsLinked-join h t p u (k ∷ ls) l m ms c d =
    (Leads-join h p (k ∷ ls) l (m ∷ ms) c.0 d.0, EndsBehind-join k.0 u p ls l m ms d.1)
