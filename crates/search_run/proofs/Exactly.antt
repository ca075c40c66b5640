-- Where all steps can pass, at most one fault of a saved index or of a certificate is reported (`one_told`), and none where a
-- text is written.
use Rattle.std.proofs.Common.{◌≡◌, ℕ, List, Option, Some, ap, subst, sym, ◌∙◌, ⊎_elim}
use Rattle.std.specs.Prelude.{◌⊎◌, IsSome, IsSomeAnd}
use Rattle.std.proofs.lemmas.Option.{none-some, same_Some}
use Rattle.outside.specs.Files.{Held}
use Rattle.saved_index.specs.Faults.{index_fault}
use Rattle.saved_index.specs.declared.error.IndexFault.{IndexFault}
use Rattle.series_core.specs.Collection.{Collection}
use Rattle.series_file.specs.declared.error.Form.{Form}
use Rattle.series_file.specs.declared.error.Loaded.{Loaded}
use Rattle.search_run.specs.Certificates.{IsFault, IsValid, ShowsInvalid, Subject}
use Rattle.search_run.specs.Indexes.{IsFitIndex, ShowsIndexFault}
use Rattle.search_run.specs.Loads.{HoldsBytes, HoldsFile, IsHeldAs, Spells}
use Rattle.search_run.specs.Plans.{CanPass, HasFault, Plan, Load, Compare, Divide, LoadIndex, Check, Write, Writes}
use Rattle.search_run.proofs.Held.{one_bytes, one_loaded}
use Rattle.search_run.proofs.OneFault.{holds_without, one_fault}
use Rattle.search_run.specs.declared.status.CertFault.{CertFault}
use Rattle.search_run.specs.declared.status.Status.{Status}
use Rattle.search_run.specs.declared.status.Status.TheVariants.{Invalid, Index}

-- a certificate that holds has no fault that is reported
valid_without : (held : Option Held) (name : List ℕ) (s : Subject) (told : Status)
    → IsSomeAnd held (λ h. IsSome (h name)) → HoldsBytes held name (IsValid s) → ShowsInvalid (IsFault s) held name told → ⊥
valid_without held name s (Invalid e) is valid fault =
    let both = one_bytes held name (IsValid s) (IsFault s e) is valid fault.1 in
    holds_without s both.0 e both.1 both.2
valid_without held name s told is valid fault = absurd fault

-- of a certificate at most one fault is reported
one_invalid : (held : Option Held) (name : List ℕ) (s : Subject) (told other : Status)
    → IsSomeAnd held (λ h. IsSome (h name)) → ShowsInvalid (IsFault s) held name told
    → ShowsInvalid (IsFault s) held name other → told ≡ other
one_invalid held name s (Invalid e) (Invalid f) is first second =
    let both = one_bytes held name (IsFault s e) (IsFault s f) is first.1 second.1 in
    ap (λ (x : CertFault). Invalid x) (one_fault s both.0 e f both.1 both.2)
one_invalid held name s (Invalid e) other is first second = absurd second
one_invalid held name s told other is first second = absurd first

-- a saved index that fits has no fault that is reported
fit_without : (held : Option Held) (name : List ℕ) (c : Collection) (told : Status)
    → IsSomeAnd held (λ h. IsSome (h name)) → HoldsBytes held name (IsFitIndex c) → ShowsIndexFault c held name told → ⊥
fit_without held name c (Index e) is fits fault =
    let both = one_bytes held name (IsFitIndex c) (λ bytes. index_fault bytes c ≡ Some e) is fits fault.1 in
    none-some e (sym both.1 ∙ both.2)
fit_without held name c told is fits fault = absurd fault

-- of a saved index at most one fault is reported
one_index : (held : Option Held) (name : List ℕ) (c : Collection) (told other : Status)
    → IsSomeAnd held (λ h. IsSome (h name)) → ShowsIndexFault c held name told
    → ShowsIndexFault c held name other → told ≡ other
one_index held name c (Index e) (Index f) is first second =
    let both = one_bytes held name (λ bytes. index_fault bytes c ≡ Some e) (λ bytes. index_fault bytes c ≡ Some f)
    is first.1 second.1 in
    ap (λ (x : IndexFault). Index x) (same_Some e f (sym both.1 ∙ both.2))
one_index held name c (Index e) other is first second = absurd second
one_index held name c told other is first second = absurd first

-- what is so of something that a file holds is so of the one thing that it can hold
held_alone : (held : Option Held) (name : List ℕ) (form : Form) (x : Loaded)
    → IsSomeAnd held (λ h. IsHeldAs h name (Spells form x)) → (IsSo : Loaded → Type 0)
    → (y : Loaded) × HoldsFile held name form y × IsSo y → IsSo x
held_alone held name form x can IsSo so = subst IsSo (sym (one_loaded held name form x so.0 can so.1.told)) so.2

-- of a step that passes or has a fault, and of those behind it, at most one fault is reported
one_of_step : (Shows : Status → Type 0) (Passes : Type 0) (Behind : Status → Type 0)
    → (Passes → (told : Status) → Shows told → ⊥) → (e f : Status) → (Shows e → Shows f → e ≡ f)
    → (Behind e → Behind f → e ≡ f) → Shows e ⊎ (Passes × Behind e) → Shows f ⊎ (Passes × Behind f) → e ≡ f
one_of_step Shows Passes Behind without e f here behind first second =
    ⊎_elim
    (λ (x : Shows e).
    ⊎_elim (λ (y : Shows f). here x y) (λ (y : Passes × Behind f). absurd (without y.0 e x)) second)
    (λ (x : Passes × Behind e).
    ⊎_elim (λ (y : Shows f). absurd (without x.0 f y)) (λ (y : Passes × Behind f). behind x.1 y.1) second)
    first

-- what the files hold is the one thing that they can hold
pub one_told : (held : Option Held) (plan : Plan) (e f : Status) → CanPass held plan → HasFault held plan e
    → HasFault held plan f → e ≡ f
one_told held (Load w name form then_) e f can first second =
    one_told held (then_ can.0) e f can.2 (held_alone held name form can.0 can.1 (λ x. HasFault held (then_ x) e) first)
    (held_alone held name form can.0 can.1 (λ x. HasFault held (then_ x) f) second)
one_told held (Compare a b then_) e f can first second = one_told held then_ e f can.1 first.1 second.1
one_told held (Divide w n then_) e f can first second = one_told held then_ e f can.1 first.1 second.1
one_told held (LoadIndex name c then_) e f can first second =
    one_of_step (ShowsIndexFault c held name) (HoldsBytes held name (IsFitIndex c)) (HasFault held then_)
    (λ fits told. fit_without held name c told can.0 fits) e f (one_index held name c e f can.0)
    (one_told held then_ e f can.1) first second
one_told held (Check name s then_) e f can first second =
    one_of_step (ShowsInvalid (IsFault s) held name) (HoldsBytes held name (IsValid s)) (HasFault held then_)
    (λ valid told. valid_without held name s told can.0 valid) e f (one_invalid held name s e f can.0)
    (one_told held then_ e f can.1) first second
one_told held (Write IsRight) e f can first second = absurd first

-- where a text is right, no saved index and no certificate has a fault
pub right_without : (held : Option Held) (plan : Plan) (text : List ℕ) (f : Status) → CanPass held plan
    → Writes held plan text → HasFault held plan f → ⊥
right_without held (Load w name form then_) text f can right fault =
    right_without held (then_ can.0) text f can.2
    (held_alone held name form can.0 can.1 (λ x. Writes held (then_ x) text) right)
    (held_alone held name form can.0 can.1 (λ x. HasFault held (then_ x) f) fault)
right_without held (Compare a b then_) text f can right fault = right_without held then_ text f can.1 right.1 fault.1
right_without held (Divide w n then_) text f can right fault = right_without held then_ text f can.1 right.1 fault.1
right_without held (LoadIndex name c then_) text f can right fault =
    ⊎_elim (fit_without held name c f can.0 right.0) (λ x. right_without held then_ text f can.1 right.1 x.1) fault
right_without held (Check name s then_) text f can right fault =
    ⊎_elim (valid_without held name s f can.0 right.0) (λ x. right_without held then_ text f can.1 right.1 x.1) fault
right_without held (Write IsRight) text f can right fault = fault
