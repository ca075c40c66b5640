-- Each command is a simple one for `clap`, whose arguments have no rule on one another, and each is
-- found by its name.
use Rattle.std.proofs.Common.{◌≡◌, ◌∙◌, Option, Some, None, true, refl, ap, arith, option_and_then}
use Rattle.clap.specs.Words.{App, Text, is_simple, is_simple_and_free}
use Rattle.clap.proofs.WalkLemmas.{both}
use Rattle.std.proofs.lemmas.Slice.Eq.{bytes_eq-Decides}
use Rattle.std.proofs.lemmas.Grind.{common_steps}
use Rattle.command_words.specs.CommandName.{app_for, named_by, text_of}
use Rattle.command_words.specs.declared.name.CommandName.{CommandName}
use Rattle.command_words.specs.declared.name.CommandName.TheVariants.{Nearest, Range, Verify, Trial}
use Rattle.command_words.specs.declared.name.CommandName.TheVariants.{Convert, Save}
use Rattle.command_words.specs.declared.name.CommandName.TheVariants.{Windows, Discord}

-- what holds of each command by itself holds of all
by_name : (P : CommandName → Type 0)
    → P Nearest × P Range × P Verify × P Trial × P Convert × P Save × P Windows × P Discord
    → (name : CommandName) → P name
by_name P each Nearest = each.0
by_name P each Range = each.1
by_name P each Verify = each.2
by_name P each Trial = each.3
by_name P each Convert = each.4
by_name P each Save = each.5
by_name P each Windows = each.6
by_name P each Discord = each.7

-- `clap` computes the faults of each command exactly
pub is_simple_app : (name : CommandName) → is_simple_and_free (app_for name) ≡ true
unfolding app_for
is_simple_app = by_name (λ name. is_simple_and_free (app_for name) ≡ true)
    (refl, refl, refl, refl, refl, refl, refl, refl)

-- a command without such rules is a simple one
pub is_simple_of_free : (a : App) → is_simple_and_free a ≡ true → is_simple a ≡ true
is_simple_of_free a e = (both _ _ e).0

-- each command is named by its own word
pub named_by_text : (name : CommandName) → named_by (text_of name) ≡ Some name
named_by_text = by_name (λ name. named_by (text_of name) ≡ Some name)
    (refl, refl, refl, refl, refl, refl, refl, refl)

-- a word that names a command is its own
name_found : (t : Text) (name : CommandName) → named_by t ≡ Some name → t ≡ text_of name
name_found t name e = grind (arith, bytes_eq-Decides, common_steps)

-- the first word is the name that was found
pub first_is_name : (first : Option Text) (name : CommandName)
    → option_and_then named_by first ≡ Some name → first ≡ Some (text_of name)
first_is_name None name e = absurd (cc)
first_is_name (Some t) name e = ap Some (name_found t name e)

-- a command is found by its own word
pub name_is_found : (first : Option Text) (name : CommandName) → first ≡ Some (text_of name)
    → option_and_then named_by first ≡ Some name
name_is_found first name e = ap (option_and_then named_by) e ∙ named_by_text name
