-- The matches of words have no entry of an id that none of the command's arguments has.
use Rattle.std.proofs.Common.{◌≡◌, ◌&&◌, ℕ, Bool, false, zero, suc, List, [], ◌∷◌}
use Rattle.std.proofs.Common.{Option, Some, None, refl, drop, length}
use Rattle.std.specs.Prelude.{encode_utf8, fold, slice_get}
use Rattle.std.specs.List.{list_any}
use Rattle.std.specs.Str.{bytes_eq, chars}
use Rattle.clap.specs.Lexer.{long_of, short_of}
use Rattle.clap.specs.Walk.{Held, Names, Outcome, Row, Rule, Step, Text, Waiting, Walk, after_flag}
use Rattle.clap.specs.Walk.{after_step, arg_by_id, arg_by_index, arg_by_long, arg_by_short}
use Rattle.clap.specs.Walk.{attached_value, bundle, bundle_met, bundle_step, done, first_of}
use Rattle.clap.specs.Walk.{flag_met, is_pending, long_met, long_or_other, next, nothing_held}
use Rattle.clap.specs.Walk.{option, option_met, option_word, plain, plain_word, reacted, refused}
use Rattle.clap.specs.Walk.{rows_after, settled, settled_rows, short_met, short_or_plain}
use Rattle.clap.specs.Walk.{subcommand, subcommand_met, subcommand_or_other, takes_several}
use Rattle.clap.specs.Walk.{takes_values, to_positional, trailing, used_by_id, value, waits, walk}
use Rattle.clap.specs.Walk.{walk_from, walked, walked_from, word_met}
use Rattle.command_words.proofs.OtherRows.{Lacks, Other, defaults_lack, either, find_other}
use Rattle.command_words.proofs.OtherRows.{first_lacks, used_lacks}

module _ (id : Text) (c : List Rule) (names : Names)
    (none : list_any (λ a. bytes_eq a.id id) c ≡ false) where
  -- what the walk holds has no entry of the id
  abbrev HeldLacks : Held → Type 0
  HeldLacks h = Lacks id h.rows

  -- an argument that was looked up leaves it lacking
  by_id_lacks : (o : Option Rule) (values : List Text) (rows : List Row) → Other id o
      → Lacks id rows
      → Lacks id (used_by_id o values rows)
  by_id_lacks None values rows other p = p
  by_id_lacks (Some a) values rows other p = used_lacks id a values rows other p

  -- the argument that waited, now used, leaves it lacking
  settled_lacks : (h : Held) → HeldLacks h → HeldLacks (settled c h)
  settled_lacks h p = go h.pending
    where
      -- the same, with what is looked at by itself
      go : (pending : Option (Text × List Text)) → Lacks id (settled_rows c pending h.rows)
      go None = p
      go (Some q) =
          by_id_lacks (arg_by_id c q.0) q.1 h.rows (find_other id (λ a. bytes_eq a.id q.0) c none) p

  -- an argument that is met leaves it lacking
  reacted_lacks : (a : Rule) (values : List Text) (h : Held) → bytes_eq a.id id ≡ false
      → HeldLacks h
      → HeldLacks (reacted c a values h)
  reacted_lacks a values h other p =
      used_lacks id a values (settled c h).rows other (settled_lacks h p)

  -- an option that is met leaves it lacking
  option_met_lacks : (a : Rule) (v : Option Text) (h : Held) → bytes_eq a.id id ≡ false
      → HeldLacks h
      → HeldLacks (option_met c a v h).0
  option_met_lacks a (Some v) h other p = reacted_lacks a (v ∷ []) h other p
  option_met_lacks a None h other p = settled_lacks h p

  -- a flag that is met leaves it lacking
  flag_met_lacks : (a : Rule) (v : Option Text) (h : Held) → bytes_eq a.id id ≡ false → HeldLacks h
      → HeldLacks (flag_met c a v h).0
  flag_met_lacks a (Some v) h other p = p
  flag_met_lacks a None h other p = reacted_lacks a [] h other p

  -- a long option leaves it lacking
  long_met_lacks : (o : Option Rule) (v : Option Text) (h : Held) → Other id o → HeldLacks h
      → HeldLacks (long_met c o v h).0
  long_met_lacks None v h other p = p
  long_met_lacks (Some a) v h other p =
      either (λ (x : Held × Outcome). HeldLacks x.0) (takes_values a) (option_met c a v h)
      (flag_met c a v h)
      (option_met_lacks a v h other p) (flag_met_lacks a v h other p)

  -- a short option leaves it lacking, where what follows does
  short_met_lacks : (o : Option Rule) (rest : Text) (h : Held) (go : Held → Held × Outcome)
      → Other id o
      → ((g : Held) → HeldLacks g → HeldLacks (go g).0) → HeldLacks h
      → HeldLacks (short_met c o rest h go).0
  short_met_lacks None rest h go other keeps p = p
  short_met_lacks (Some a) rest h go other keeps p =
      either (λ (x : Held × Outcome). HeldLacks x.0) (takes_values a)
      (option_met c a (attached_value rest) h)
      (go (reacted c a [] h)) (option_met_lacks a (attached_value rest) h other p)
      (keeps (reacted c a [] h) (reacted_lacks a [] h other p))

  -- one letter of a bundle leaves it lacking, where the rest does
  bundle_step_lacks : (o : Option ℕ) (flags : Text) (skip : ℕ) (so_far : Outcome) (h : Held)
      (go : Text → ℕ → Outcome → Held → Held × Outcome)
      → ((t : Text) (k : ℕ) (so : Outcome) (g : Held) → HeldLacks g → HeldLacks (go t k so g).0)
      → HeldLacks h
      → HeldLacks (bundle_step c o flags skip so_far h go).0
  bundle_step_lacks None flags skip so_far h go keeps p = p
  bundle_step_lacks (Some x) flags zero so_far h go keeps p =
      let rest : Text = drop (length (encode_utf8 x)) flags in
      short_met_lacks (arg_by_short c x) rest h (go rest 0 done) (find_other id _ c none)
      (λ g q. keeps rest 0 done g q) p
  bundle_step_lacks (Some x) flags (suc skip) so_far h go keeps p =
      keeps (drop (length (encode_utf8 x)) flags) skip so_far h p

  -- a bundle of letters leaves it lacking
  bundle_met_lacks : (k : ℕ) (flags : Text) (skip : ℕ) (so_far : Outcome) (h : Held) → HeldLacks h
      → HeldLacks (bundle_met c k flags skip so_far h).0
  unfolding bundle_met
  bundle_met_lacks zero flags skip so_far h p = p
  bundle_met_lacks (suc k) flags skip so_far h p =
      bundle_step_lacks (slice_get (chars flags) 0) flags skip so_far h (bundle_met c k)
      (λ t n so g q. bundle_met_lacks k t n so g q) p

  -- the value of an option leaves it lacking
  option_word_lacks : (o : Option Rule) (key word : Text) (h : Held) → HeldLacks h
      → HeldLacks (option_word o key word h).0
  option_word_lacks None key word h p = p
  option_word_lacks (Some a) key word h p = p

  -- a word that is no option leaves it lacking
  plain_word_lacks : (waiting : Waiting) (word : Text) (h : Held) → HeldLacks h
      → HeldLacks (plain_word c waiting word h).0
  plain_word_lacks (option key) word h p = option_word_lacks (arg_by_id c key) key word h p
  plain_word_lacks _ word h p = p

  -- what comes of a flag leaves it lacking
  after_flag_lacks : (waiting : Waiting) (word : Text) (h : Held) (o : Outcome) → HeldLacks h
      → HeldLacks (after_flag c waiting word h o).0
  after_flag_lacks waiting word h done p = p
  after_flag_lacks waiting word h (waits key) p = p
  after_flag_lacks waiting word h plain p = plain_word_lacks waiting word h p
  after_flag_lacks waiting word h refused p = plain_word_lacks waiting word h p

  -- a word read as letters leaves it lacking
  short_lacks : (waiting : Waiting) (word : Text) (o : Option Text) (h : Held) → HeldLacks h
      → HeldLacks (short_or_plain c waiting word o h).0
  short_lacks waiting word (Some flags) h p =
      after_flag_lacks waiting word (bundle c flags h).0 (bundle c flags h).1
      (bundle_met_lacks (length flags) flags h.skip plain (record h { skip = 0 }) p)
  short_lacks waiting word None h p = plain_word_lacks waiting word h p

  -- a word read as a long option leaves it lacking
  long_lacks : (waiting : Waiting) (word : Text) (o : Option (Text × Option Text)) (h : Held)
      → HeldLacks h
      → HeldLacks (long_or_other c waiting word o h).0
  long_lacks waiting word (Some q) h p =
      after_flag_lacks waiting word (long_met c (arg_by_long c q.0) q.1 h).0
      (long_met c (arg_by_long c q.0) q.1 h).1
      (long_met_lacks (arg_by_long c q.0) q.1 h (find_other id _ c none) p)
  long_lacks waiting word None h p = short_lacks waiting word (short_of word) h p

  -- a word that names no subcommand leaves it lacking
  other_lacks : (o : Option Text) (waiting : Waiting) (position : ℕ) (word : Text) (h : Held)
      → HeldLacks h
      → HeldLacks (subcommand_or_other c o waiting position word h).0
  other_lacks (Some name) waiting position word h p = p
  other_lacks None waiting position word h p =
      either (λ (x : Held × Step). HeldLacks x.0) (bytes_eq word (45 ∷ 45 ∷ []))
      (h, trailing position)
      (long_or_other c waiting word (long_of word) h) p (long_lacks waiting word (long_of word) h p)

  -- each word leaves it lacking
  met_lacks : (is_trailing : Bool) (waiting : Waiting) (position : ℕ) (word : Text) (h : Held)
      → HeldLacks h
      → HeldLacks (word_met c names is_trailing waiting position word h).0
  met_lacks is_trailing waiting position word h p =
      either (λ (x : Held × Step). HeldLacks x.0) is_trailing (h, value)
      (subcommand_or_other c (subcommand_met names waiting word) waiting position word h) p
      (other_lacks (subcommand_met names waiting word) waiting position word h p)

  -- a word at its place leaves it lacking
  positional_lacks : (o : Option Rule) (word : Text) (w : Walk) (h : Held) → HeldLacks h
      → HeldLacks (to_positional c o word w h).held
  positional_lacks None word w h p = p
  positional_lacks (Some a) word w h p =
      either HeldLacks (is_pending a h.pending && takes_several a) h (settled c h) p
      (settled_lacks h p)

  -- each step after a word leaves it lacking
  step_lacks : (word : Text) (w : Walk) (h : Held) (step : Step) → HeldLacks h
      → HeldLacks (after_step c word w h step).held
  step_lacks word w h (next waiting) p = p
  step_lacks word w h (trailing position) p = p
  step_lacks word w h (subcommand name) p = p
  step_lacks word w h value p = positional_lacks (arg_by_index c w.position) word w h p

  -- one step of the walk leaves it lacking
  walked_lacks : (w : Walk) (word : Text) → HeldLacks w.held
      → HeldLacks (walked c names w word).held
  unfolding walked
  walked_lacks w word p = go w.stopped
    where
      -- the same, with what is looked at by itself
      go : (stopped : Option (Text × List Text))
          → HeldLacks (walked_from c names stopped w word).held
      go (Some q) = p
      go None =
          let met = word_met c names w.is_trailing w.waiting w.position word w.held in
          step_lacks word w met.0 met.1 (met_lacks w.is_trailing w.waiting w.position word w.held p)

  -- the whole walk leaves it lacking
  walk_lacks : (words : List Text) (w : Walk) → HeldLacks w.held
      → HeldLacks (fold (walked c names) w words).held
  walk_lacks [] w p = p
  walk_lacks (word ∷ words) w p = walk_lacks words (walked c names w word) (walked_lacks w word p)

  -- an id that no argument has is not found
  pub not_found : (words : List Text) → first_of id (rows_after c names words) ≡ None
  not_found words =
      let end = (walk c names nothing_held words).held in
      first_lacks id (rows_after c names words)
      (defaults_lack id c (settled c end).rows none
      (settled_lacks end (walk_lacks words (walk_from nothing_held) refl)))
