-- `lines::words::put_change` meets its contract, by cases. Assumes nothing.
use Rattle.image.specs.Words.{bytes}
use Rattle.rules.specs.Report.{change_word}
use Rattle.rules.specs.Text.{word}
use Rattle.lines.proofs.words.put_change.Goals as goal

pub returns-in-FieldAdded : goal.returns-in-FieldAdded
unfolding bytes change_word word
returns-in-FieldAdded c = rw c.in-FieldAdded.is c.text.ensures

pub returns-in-FieldRemoved : goal.returns-in-FieldRemoved
unfolding bytes change_word word
returns-in-FieldRemoved c = rw c.in-FieldRemoved.is c.text-in-FieldRemoved.ensures

pub returns-in-FieldTypeChanged : goal.returns-in-FieldTypeChanged
unfolding bytes change_word word
returns-in-FieldTypeChanged c = rw c.in-FieldTypeChanged.is c.text-in-FieldTypeChanged.ensures

pub returns-in-FieldOrdinalChanged : goal.returns-in-FieldOrdinalChanged
unfolding bytes change_word word
returns-in-FieldOrdinalChanged c = rw c.in-FieldOrdinalChanged.is c.text-in-FieldOrdinalChanged.ensures

pub returns-in-FieldRenamed : goal.returns-in-FieldRenamed
unfolding bytes change_word word
returns-in-FieldRenamed c = rw c.in-FieldRenamed.is c.text-in-FieldRenamed.ensures

pub returns-in-FieldDeprecated : goal.returns-in-FieldDeprecated
unfolding bytes change_word word
returns-in-FieldDeprecated c = rw c.in-FieldDeprecated.is c.text-in-FieldDeprecated.ensures

pub returns-in-FieldEncodingChanged : goal.returns-in-FieldEncodingChanged
unfolding bytes change_word word
returns-in-FieldEncodingChanged c = rw c.in-FieldEncodingChanged.is c.text-in-FieldEncodingChanged.ensures

pub returns-in-VariantAdded : goal.returns-in-VariantAdded
unfolding bytes change_word word
returns-in-VariantAdded c = rw c.in-VariantAdded.is c.text-in-VariantAdded.ensures

pub returns-in-VariantRemoved : goal.returns-in-VariantRemoved
unfolding bytes change_word word
returns-in-VariantRemoved c = rw c.in-VariantRemoved.is c.text-in-VariantRemoved.ensures

pub returns-in-VariantOrdinalChanged : goal.returns-in-VariantOrdinalChanged
unfolding bytes change_word word
returns-in-VariantOrdinalChanged c = rw c.in-VariantOrdinalChanged.is c.text-in-VariantOrdinalChanged.ensures

pub returns-in-DeclarationAdded : goal.returns-in-DeclarationAdded
unfolding bytes change_word word
returns-in-DeclarationAdded c = rw c.in-DeclarationAdded.is c.text-in-DeclarationAdded.ensures

pub returns-in-DeclarationRemoved : goal.returns-in-DeclarationRemoved
unfolding bytes change_word word
returns-in-DeclarationRemoved c = rw c.in-DeclarationRemoved.is c.text-in-DeclarationRemoved.ensures

pub returns-in-DeclarationKindChanged : goal.returns-in-DeclarationKindChanged
unfolding bytes change_word word
returns-in-DeclarationKindChanged c = rw c.in-DeclarationKindChanged.is c.text-in-DeclarationKindChanged.ensures

pub returns-in-NamespaceChanged : goal.returns-in-NamespaceChanged
unfolding bytes change_word word
returns-in-NamespaceChanged c = rw c.in-NamespaceChanged.is c.text-in-NamespaceChanged.ensures

pub returns-in-NonExhaustiveChanged : goal.returns-in-NonExhaustiveChanged
unfolding bytes change_word word
returns-in-NonExhaustiveChanged c = rw c.in-NonExhaustiveChanged.is c.text-in-NonExhaustiveChanged.ensures

pub returns-in-FlagsBitAdded : goal.returns-in-FlagsBitAdded
unfolding bytes change_word word
returns-in-FlagsBitAdded c = rw c.in-FlagsBitAdded.is c.text-in-FlagsBitAdded.ensures

pub returns-in-FlagsBitRemoved : goal.returns-in-FlagsBitRemoved
unfolding bytes change_word word
returns-in-FlagsBitRemoved c = rw c.in-FlagsBitRemoved.is c.text-in-FlagsBitRemoved.ensures

pub returns-in-FlagsBitOrdinalChanged : goal.returns-in-FlagsBitOrdinalChanged
unfolding bytes change_word word
returns-in-FlagsBitOrdinalChanged c = rw c.in-FlagsBitOrdinalChanged.is c.text-in-FlagsBitOrdinalChanged.ensures

pub returns-in-WidthChanged : goal.returns-in-WidthChanged
unfolding bytes change_word word
returns-in-WidthChanged c = rw c.in-WidthChanged.is c.text-in-WidthChanged.ensures

pub returns-in-TombstoneReused : goal.returns-in-TombstoneReused
unfolding bytes change_word word
returns-in-TombstoneReused c = rw c.in-TombstoneReused.is c.text-in-TombstoneReused.ensures

pub returns-in-TombstoneDropped : goal.returns-in-TombstoneDropped
unfolding bytes change_word word
returns-in-TombstoneDropped c = rw c.in-TombstoneDropped.is c.text-in-TombstoneDropped.ensures
